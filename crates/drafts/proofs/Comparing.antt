-- The output in progress compared in three parts: the space of header and entries, the postings, and the rest.
use Rattle.lists.proofs.Prelude.{Bool, ◌&&◌, List, [], ◌∷◌, ◌++◌, append_assoc, ◌≡◌, refl, sym, ap, ap₂, ◌∙◌, ℕ, zero, suc, ◌+◌, ◌-◌, ◌*◌, ◌≤◌, arith, eqb, length, take, drop, replicate, length-append, length-take, length-drop, length-replicate, length-map, take-append-drop, take_all, length-take-le, every, same, eqb_swap, same-swap, keep_append, and_assoc, same-append}
use Rattle.words.specs.Words.{all_ones}
use Rattle.postings.specs.declared.Posting.{Posting}
use Rattle.postings.specs.Merge.{nonzero, is_counted}
use Rattle.card.specs.Blocks.{block, content_of}
use Rattle.card.specs.Chains.{chain, content}
use Rattle.card.specs.Cursors.{Chained}
use Rattle.card.proofs.Links.{length-chain}
use Rattle.partitions.proofs.Headers.{content-room}
use Rattle.partitions.specs.Layout.{word_of}
use Rattle.inputs.specs.Ahead.{out_words, Matched}
use Rattle.drafts.specs.Drafted.{holds_draft}

-- Lists ------------------------------------------------------------------------------------------------------------------

same-replicate : (v n : ℕ) (l : List ℕ) → length l ≡ n → same l (replicate n v) ≡ every (eqb v) l
same-replicate v zero [] e = refl
same-replicate v zero (x ∷ l) e = absurd (omega arith)
same-replicate v (suc n) [] e = absurd (omega arith)
same-replicate v (suc n) (x ∷ l) e = ap₂ ◌&&◌ (eqb_swap x v) (same-replicate v n l (omega arith))

-- a list compared with so many of one value, a list, and that value to the end
pub same_parts : (v m front : ℕ) (ws c : List ℕ) → length c ≡ m → front + length ws ≤ m
    → same c ((replicate front v ++ ws) ++ replicate (m - length (replicate front v ++ ws)) v)
    ≡ ((every (eqb v) (take front c) && same ws (take (length ws) (drop front c))) && every (eqb v) (drop (length ws) (drop front c)))
same_parts v m front ws c len room =
    let x = take front c in
    let y = drop front c in
    let p = take (length ws) y in
    let q = drop (length ws) y in
    let lx : length x ≡ front = length-take-le front c (omega arith) in
    let ly : length y ≡ m - front = length-drop front c ∙ (omega arith) in
    let lp : length p ≡ length ws = length-take-le (length ws) y (omega arith) in
    let lr = length-replicate front v in
    let k = m - length (replicate front v ++ ws) in
    let lq : length q ≡ k = omega (arith, length-drop (length ws) y, length-append (replicate front v) ws) in
    ap (λ (l : List ℕ). same l ((replicate front v ++ ws) ++ replicate k v)) (sym (take-append-drop front c) ∙ ap (λ (l : List ℕ). x ++ l) (sym (take-append-drop (length ws) y)))
    ∙ ap (same (x ++ (p ++ q))) (append_assoc (replicate front v) ws (replicate k v))
    ∙ same-append x (p ++ q) (replicate front v) (ws ++ replicate k v) (lx ∙ sym lr)
    ∙ ap₂ ◌&&◌ (same-replicate v front x lx) (same-append p q ws (replicate k v) lp ∙ ap₂ ◌&&◌ (same-swap p ws) (same-replicate v k q lq))
    ∙ sym (and_assoc (every (eqb v) x) (same ws p) (every (eqb v) q))

-- The output -------------------------------------------------------------------------------------------------------------

nonzero-most : (m : ℕ) (ps : List Posting) → length (nonzero (take m ps)) ≤ length (nonzero ps)
unfolding nonzero
nonzero-most m ps =
    omega (
      arith,
      ap (λ (l : List Posting). length (nonzero l)) (take-append-drop m ps),
      ap length (keep_append is_counted (take m ps) (drop m ps)),
      length-append (nonzero (take m ps)) (nonzero (drop m ps)),
    )

-- the words of pairs taken, at most those of all
pub words-room : (m : ℕ) (ps : List Posting) → length (out_words m ps) ≤ length (nonzero ps)
words-room m ps = omega (arith, length-map (nonzero (take m ps)) word_of, nonzero-most m ps)

-- and how many they are
pub words_count : (m : ℕ) (ps : List Posting) → length (out_words m ps) ≡ length (nonzero (take m ps))
words_count m ps = length-map (nonzero (take m ps)) word_of

content-most : (W bs : List ℕ) → length (content W bs) ≤ 1023 * length bs
unfolding content
content-most W [] = omega arith
content-most W (b ∷ bs) = omega (arith, length-append (content_of W b) (content W bs), length-take 1023 (block W b), content-most W bs)

-- the content of a chain
pub content-whole : (W : List ℕ) (b n : ℕ) → Chained W b n → length (content W (chain W b n)) ≡ 1023 * n
content-whole W b n g = omega (arith, content-room W b n g, content-most W (chain W b n), ap (λ (k : ℕ). 1023 * k) (length-chain W b n))

-- what was read in three parts
module _ (W : List ℕ) (b n front : ℕ) (m : ℕ) (ps : List Posting) (g : Chained W b n) (room : front + length (nonzero ps) ≤ 1023 * n) where
  abbrev c : List ℕ
  c = content W (chain W b n)

  pub rest-whole : take (1023 * n - front) (drop front c) ≡ drop front c
  rest-whole = take_all (1023 * n - front) (drop front c) (omega (arith, length-drop front c, content-whole W b n g))

  pub draft-read : (head out left : List ℕ) (r : Bool) → head ≡ take front (drop 0 c) → out ≡ take (1023 * n - front) (drop front c) → Matched out (out_words m ps) r left
      → ((every (eqb all_ones) head && r) && every (eqb all_ones) left) ≡ holds_draft W b n front m ps
  draft-read head out left r x y k =
      let o : out ≡ drop front c = y ∙ rest-whole in
      rw (k.same, k.rest, x, o) (sym (same_parts all_ones (1023 * n) front (out_words m ps) c (content-whole W b n g) (omega (arith, words-room m ps))))

  -- so much is to come
  pub draft-left : (out : List ℕ) → out ≡ take (1023 * n - front) (drop front c) → length out ≡ 1023 * n - front
  draft-left out y = ap length (y ∙ rest-whole) ∙ length-drop front c ∙ (omega (arith, content-whole W b n g))

  -- and how many postings were read
  pub draft-written : (out left : List ℕ) (r : Bool) → out ≡ take (1023 * n - front) (drop front c) → Matched out (out_words m ps) r left
      → (length left ≤ 1023 * n - front) × (1023 * n - front - length left ≡ length (nonzero (take m ps)))
  draft-written out left r y k =
      let o = draft-left out y in
      let l : length left ≡ length out - length (out_words m ps) = ap length k.rest ∙ length-drop (length (out_words m ps)) out in
      (omega arith, omega (arith, words-room m ps, words_count m ps))
