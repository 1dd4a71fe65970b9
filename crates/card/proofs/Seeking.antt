-- A cursor on a chain: what is ahead of it is a part of the chain's content.
use Rattle.lists.proofs.Prelude.{true, List, ◌∷◌, ◌++◌, ◌⊎◌, ⊎_elim, ◌≡◌, refl, ap, ◌∙◌, ℕ, zero, suc, ◌+◌, ◌-◌, ◌*◌, ◌<◌, ◌≤◌, eq-or-lt_of_le, add-one, arith, ltb, length, get_or, take, drop, length-append, length-drop, List·getD-append, drop-cons, get_or-take, get_or-drop, drop-append-add, length-take-le, eq-eqb, ne_eqb, ltb-true, AllOf, and_left, and_right}
use Rattle.card.specs.Blocks.{block, content_of, link}
use Rattle.card.specs.Chains.{chain, chain_rule, content}
use Rattle.card.specs.Cursors.{word_in, InCard, Chained, ahead_at, good_at}
use Rattle.card.proofs.Chains.{first-in}

-- the content of the chain of n blocks from b on
abbrev held : List ℕ → ℕ → ℕ → List ℕ
held W b n = content W (chain W b n)

module _ (W : List ℕ) where
  length-content : (b : ℕ) → InCard W b → length (content_of W b) ≡ 1023
  length-content b h =
      length-take-le 1023 (block W b) (omega (arith, length-take-le 1024 (drop (1024 * b) W) (simp length-drop (omega arith))))

  -- a chain of at least one block
  held_more : (b n : ℕ) → held W b (suc n) ≡ content_of W b ++ held W (link W b) n
  unfolding chain content
  held_more b n = refl

  content-at : (b i : ℕ) → i < 1023 → get_or (content_of W b) i 0 ≡ word_in W b i
  content-at b i l = get_or-take 1023 (block W b) i 0 l ∙ get_or-take 1024 (drop (1024 * b) W) i 0 (omega arith) ∙ get_or-drop (1024 * b) W i 0

  word-in : (b n i : ℕ) → InCard W b → i < 1023 → drop i (held W b (suc n)) ≡ word_in W b i ∷ drop (suc i) (held W b (suc n))
  word-in b n i h l =
      let len = length-content b h in
      let whole : i < length (content_of W b ++ held W (link W b) n) = simp length-append (omega arith) in
      let e : get_or (content_of W b ++ held W (link W b) n) i 0 ≡ word_in W b i =
      List·getD-append (content_of W b) (held W (link W b) n) 0 i (omega arith) ∙ content-at b i l in
      rw (held_more b n) (drop-cons (content_of W b ++ held W (link W b) n) i 0 whole ∙ rw e)

  past-block : (b n k : ℕ) → InCard W b → drop (1023 + k) (held W b (suc n)) ≡ drop k (held W (link W b) n)
  past-block b n k h = rw (held_more b n) (rw (length-content b h) at (drop-append-add (content_of W b) (held W (link W b) n) k))

  abbrev Is : ℕ → ℕ → ℕ → ℕ → Type 0
  Is left n b i = (ahead_at W left b i ≡ take left (drop i (held W b n))) × good_at W left b i

  -- one word on: in the next block, and in the same
  module _ (left n b i : ℕ) (l : i < 1023) (c : InCard W b) where
    last : i ≡ 1022 → Is left n (link W b) 0 → Is (suc left) (suc n) b i
    unfolding ahead_at good_at
    last e r =
        let t = eq-eqb i 1022 e in
        let p : suc i ≡ 1023 + 0 = omega arith in
        (rw (word-in b n i c l, t, p, past-block b n 0 c, r.0), (l, c, rw t r.1))

    more : i < 1022 → Is left (suc n) b (i + 1) → Is (suc left) (suc n) b i
    unfolding ahead_at good_at
    more e r =
        let t = ne_eqb i 1022 (λ q. omega arith) in
        (rw (word-in b n i c l, t, r.0, add-one i), (l, c, rw t r.1))

  within : (left n b i : ℕ) → i < 1023 → i + left ≤ 1023 * n → Chained W b n → Is left n b i
  unfolding ahead_at good_at
  within zero n b i l h g = (refl, tt)
  within (suc left) zero b i l h g = absurd (omega arith)
  within (suc left) (suc n) b i l h g =
      let f = first-in W b n g in
      ⊎_elim
      (λ e. last left n b i l f.0 e (within left n (link W b) 0 (omega arith) (omega arith) f.1))
      (λ e. more left n b i l f.0 e (within left (suc n) b (i + 1) (omega arith) (omega arith) g))
      (eq-or-lt_of_le {n = i} {m = 1022} (omega arith))

  -- a cursor in the first block of a chain; one that stands past its last word has none to come
  pub ahead-chain : (left n b i : ℕ) → (i < 1023) ⊎ (n ≤ 1) → i + left ≤ 1023 * n → Chained W b n → Is left n b i
  unfolding ahead_at good_at
  ahead-chain zero n b i l h g = (refl, tt)
  ahead-chain (suc left) n b i l h g = within (suc left) n b i (⊎_elim (λ w. w) (λ w. omega arith) l) h g

  -- a whole block is passed over
  pub past : (b n k left : ℕ) → 1023 ≤ k → 1 < n → k + left ≤ 1023 * n → Chained W b n
      → InCard W b × InCard W (link W b) × Chained W (link W b) (n - 1) × (drop k (held W b n) ≡ drop (k - 1023) (held W (link W b) (n - 1)))
  past b zero k left l m h g = absurd (omega arith)
  past b (suc zero) k left l m h g = absurd (omega arith)
  past b (suc (suc n)) k left l m h g =
      let e : suc (suc n) - 1 ≡ suc n = omega arith in
      let p : k ≡ 1023 + (k - 1023) = omega arith in
      let f = first-in W b (suc n) g in
      (f.0, (first-in W (link W b) n f.1).0, rw e f.1, rw (e, ← past-block b (suc n) (k - 1023) f.0) (ap (λ (x : ℕ). drop x (held W b (suc (suc n)))) p))

  -- the blocks of a chain that keeps the rule are blocks of the card
  pub rule-chained : (limit b n : ℕ) → length W ≡ 1024 * limit → limit ≤ 4096 → chain_rule W limit b n ≡ true → Chained W b n
  unfolding chain_rule chain AllOf
  rule-chained limit b zero l f e = tt
  rule-chained limit b (suc zero) l f e = let h = ltb-true b limit (and_left (ltb b limit) _ e) in (record { few = omega arith; inside = omega arith }, tt)
  rule-chained limit b (suc (suc n)) l f e =
      let h = ltb-true b limit (and_left (ltb b limit) _ e) in
      (record { few = omega arith; inside = omega arith }, rule-chained limit (link W b) (suc n) l f (and_right (ltb b limit) _ e))
