-- What a chain says by its places: its blocks, their links, and the words of its content.
use Rattle.lists.proofs.Prelude.{true, cond, true≢false, List, [], ◌∷◌, ◌≡◌, refl, sym, ap, ◌∙◌, ℕ, zero, suc, ◌+◌, ◌*◌, ◌/◌, ◌%◌, ◌<◌, arith, ltb, length, get_or, drop, length-append, length-take, length-drop, List·getD-append, get_or-take, get_or-drop, get_or-append-add, ltb-true, ltb-false, eqb-true, by-test, and_left, and_right, and_both}
use Rattle.card.specs.Blocks.{no_block, block, content_of, link, on_card}
use Rattle.card.specs.Chains.{chain, chain_rule, content}

-- a word by its block and its place there
pub word-in : (W : List ℕ) (k : ℕ) → get_or W k 0 ≡ get_or (block W (k / 1024)) (k % 1024) 0
word-in W k =
    let e : 1024 * (k / 1024) + k % 1024 ≡ k = omega arith in
    sym
    (get_or-take 1024 (drop (1024 * (k / 1024)) W) (k % 1024) 0 (omega arith) ∙ get_or-drop (1024 * (k / 1024)) W (k % 1024) 0
    ∙ ap (λ (i : ℕ). get_or W i 0) e)

-- the link is the block's last word
pub link-block : (W : List ℕ) (b : ℕ) → link W b ≡ get_or (block W b) 1023 0
link-block W b = sym (get_or-take 1024 (drop (1024 * b) W) 1023 0 (omega arith) ∙ get_or-drop (1024 * b) W 1023 0)

-- Chains -----------------------------------------------------------------------------------------------------------

-- a chain has as many blocks as told
pub length-chain : (W : List ℕ) (b k : ℕ) → length (chain W b k) ≡ k
unfolding chain
length-chain W b zero = refl
length-chain W b (suc k) = ap suc (length-chain W (link W b) k)

-- the first block of a chain that keeps the rule is one of the card's
pub rule-first : (W : List ℕ) (n b k : ℕ) → chain_rule W n b k ≡ true → b < n
unfolding chain_rule
rule-first W n b zero e = absurd (true≢false (sym e))
rule-first W n b (suc zero) e = ltb-true b n (and_left (ltb b n) _ e)
rule-first W n b (suc (suc k)) e = ltb-true b n (and_left (ltb b n) _ e)

-- and so is every one
pub rule-on : (W : List ℕ) (n b k : ℕ) → chain_rule W n b k ≡ true → on_card n (chain W b k) ≡ true
unfolding chain chain_rule
rule-on W n b zero e = refl
rule-on W n b (suc zero) e = and_both (ltb b n) true (and_left (ltb b n) _ e) refl
rule-on W n b (suc (suc k)) e = and_both (ltb b n) _ (and_left (ltb b n) _ e) (rule-on W n (link W b) (suc k) (and_right (ltb b n) _ e))

-- each block links to the next
pub chain_next : (W : List ℕ) (b k j : ℕ) → suc j < k → link W (get_or (chain W b k) j 0) ≡ get_or (chain W b k) (suc j) 0
unfolding chain
chain_next W b zero j h = absurd (omega arith)
chain_next W b (suc zero) j h = absurd (omega arith)
chain_next W b (suc (suc k)) zero h = refl
chain_next W b (suc (suc k)) (suc j) h = chain_next W (link W b) (suc k) j (omega arith)

-- and the last to none
pub rule-last : (W : List ℕ) (n b k j : ℕ) → chain_rule W n b k ≡ true → suc j ≡ k → link W (get_or (chain W b k) j 0) ≡ no_block
unfolding chain chain_rule
rule-last W n b zero j e q = absurd (omega arith)
rule-last W n b (suc zero) zero e q = eqb-true (link W b) no_block (and_right (ltb b n) _ e)
rule-last W n b (suc zero) (suc j) e q = absurd (omega arith)
rule-last W n b (suc (suc k)) zero e q = absurd (omega arith)
rule-last W n b (suc (suc k)) (suc j) e q = rule-last W n (link W b) (suc k) j (and_right (ltb b n) _ e) (omega arith)

-- what the block at place j of bs links to where they are chained
abbrev pub next_at : List ℕ → ℕ → ℕ
next_at bs j = cond (ltb (suc j) (length bs)) (get_or bs (suc j) 0) no_block

-- and that is what it links to
pub chained-link : (W bs : List ℕ) (n b : ℕ) → chain W b (length bs) ≡ bs → chain_rule W n b (length bs) ≡ true → (j : ℕ) → j < length bs
    → link W (get_or bs j 0) ≡ next_at bs j
chained-link W bs n b c e j h =
    let at : (i : ℕ) → get_or (chain W b (length bs)) i 0 ≡ get_or bs i 0 = λ i. ap (λ (l : List ℕ). get_or l i 0) c in
    by-test (ltb (suc j) (length bs))
    (λ y. rw y (ap (link W) (sym (at j)) ∙ chain_next W b (length bs) j (ltb-true (suc j) (length bs) y) ∙ at (suc j)))
    (λ f. rw f (ap (link W) (sym (at j)) ∙ rule-last W n b (length bs) j e (omega (arith, ltb-false (suc j) (length bs) f))))

-- Content ----------------------------------------------------------------------------------------------------------

module _ (W : List ℕ) (n : ℕ) where
  -- a block of the card has 1,024 words
  pub length-block : (b : ℕ) → length W ≡ 1024 * n → b < n → length (block W b) ≡ 1024
  length-block b long h = omega (arith, length-take 1024 (drop (1024 * b) W), length-drop (1024 * b) W)

  length-one : (b : ℕ) → length W ≡ 1024 * n → b < n → length (content_of W b) ≡ 1023
  length-one b long h = omega (arith, length-block b long h, length-take 1023 (block W b))

  -- 1,023 words to a block
  pub length-content : (bs : List ℕ) → length W ≡ 1024 * n → on_card n bs ≡ true → length (content W bs) ≡ 1023 * length bs
  unfolding content
  length-content [] long o = refl
  length-content (b ∷ bs) long o =
      let l = length-one b long (ltb-true b n (and_left (ltb b n) _ o)) in
      omega (arith, length-append (content_of W b) (content W bs), length-content bs long (and_right (ltb b n) _ o))

  -- word r of the block at place j
  pub content-at : (bs : List ℕ) → length W ≡ 1024 * n → on_card n bs ≡ true → (j r : ℕ) → j < length bs → r < 1023
      → get_or (content W bs) (1023 * j + r) 0 ≡ get_or W (1024 * get_or bs j 0 + r) 0
  unfolding content
  content-at [] long o j r a b = absurd (omega arith)
  content-at (d ∷ bs) long o zero r a b =
      let l = length-one d long (ltb-true d n (and_left (ltb d n) _ o)) in
      let z : 1023 * 0 + r ≡ r = omega arith in
      rw z
      (List·getD-append (content_of W d) (content W bs) 0 r (omega arith) ∙ get_or-take 1023 (block W d) r 0 b
      ∙ get_or-take 1024 (drop (1024 * d) W) r 0 (omega arith) ∙ get_or-drop (1024 * d) W r 0)
  content-at (d ∷ bs) long o (suc j) r a b =
      let l = length-one d long (ltb-true d n (and_left (ltb d n) _ o)) in
      let z : 1023 * suc j + r ≡ length (content_of W d) + (1023 * j + r) = omega arith in
      rw z (get_or-append-add (content_of W d) (content W bs) (1023 * j + r) 0 ∙ content-at bs long (and_right (ltb d n) _ o) j r (omega arith) b)
