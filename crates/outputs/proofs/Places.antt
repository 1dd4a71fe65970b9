-- The block to write to, found along a chain.
use Rattle.lists.proofs.Prelude.{true, false, ◌&&◌, List, ◌⊎◌, inl, inr, ⊎_elim, ◌≡◌, refl, ap, ◌∙◌, ℕ, zero, suc, ◌-◌, ◌*◌, ◌/◌, ◌%◌, ◌<◌, ◌≤◌, arith, eqb, ltb, get_or, eqb-true, eqb-false, ltb-true, ltb-false, every, of_at, by-test, and_left, and_right}
use Rattle.words.specs.Words.{all_ones}
use Rattle.card.specs.Blocks.{link}
use Rattle.card.specs.Chains.{chain}
use Rattle.card.specs.declared.Cursor.{Cursor}
use Rattle.card.specs.Cursors.{InCard, Chained, ahead_at, ahead}
use Rattle.card.proofs.Links.{length-chain, chain_next}
use Rattle.outputs.specs.Contents.{reached, entered}

-- after whole blocks of a chain were passed over, k words are still to go to word o
pub record Going (W : List ℕ) (first n o k b : ℕ) : Type 0 where
  pub most : k ≤ o
  pub whole : (o - k) % 1023 ≡ 0
  pub block : b ≡ get_or (chain W first n) ((o - k) / 1023) 0
  pub some : (k ≡ o) ⊎ (0 < k)

-- at first none is passed over
pub going_start : (W : List ℕ) (first n o : ℕ) → 0 < n → Going W first n o o first
unfolding chain
going_start W first zero o h = absurd (omega arith)
going_start W first (suc n) o h =
    let e : (o - o) / 1023 ≡ 0 = omega arith in
    record { most = omega arith; whole = omega arith; block = rw e; some = inl refl }

module _ (W : List ℕ) (first n : ℕ) (g : Chained W first n) where
  abbrev bs : List ℕ
  bs = chain W first n

  -- the block at a place of the chain is one of the card's
  pub in-at : (j : ℕ) → j < n → InCard W (get_or bs j 0)
  in-at j h = of_at (InCard W) 0 bs j (omega (arith, length-chain W first n)) g

  module _ (o k b : ℕ) (room : o ≤ 1023 * n) (w : Going W first n o k b) where
    -- one block more
    pub going-in : 1023 < k → InCard W b
    going-in h = rw w.block (in-at ((o - k) / 1023) (omega (arith, w.most)))

    going-link : 1023 < k → link W b ≡ get_or bs ((o - (k - 1023)) / 1023) 0
    going-link h =
        let e : suc ((o - k) / 1023) ≡ (o - (k - 1023)) / 1023 = omega (arith, w.most, w.whole) in
        rw (w.block, ← e) (chain_next W first n ((o - k) / 1023) (omega (arith, w.most)))

    pub going_next : 1023 < k → InCard W (link W b)
    going_next h = rw (going-link h) (in-at ((o - (k - 1023)) / 1023) (omega (arith, w.most)))

    pub going_on : 1023 < k → Going W first n o (k - 1023) (link W b)
    going_on h =
        record {
          most = omega (arith, w.most);
          whole = omega (arith, w.most, w.whole);
          block = going-link h;
          some = inr (omega arith);
        }

    -- at the end the block is found
    pub going_end : k ≤ 1023 → b ≡ reached bs o
    going_end h =
        let e : (o - k) / 1023 ≡ (o - 1) / 1023 = ⊎_elim (λ z. omega (arith, w.most, w.whole)) (λ z. omega (arith, w.most, w.whole)) w.some in
        w.block ∙ ap (λ (j : ℕ). get_or bs j 0) e

  -- the first k words reach block b, and there is room for word k
  module _ (k b : ℕ) (h : k < 1023 * n) (a : b ≡ reached bs k) where
    pub reached-in : InCard W b
    reached-in = rw a (in-at ((k - 1) / 1023) (omega arith))

    -- the block of word k
    pub entered_at : entered W b k ≡ get_or bs (k / 1023) 0
    entered_at =
        by-test (ltb 0 k && eqb (k % 1023) 0)
        (λ y. let p = ltb-true 0 k (and_left (ltb 0 k) _ y) in
        let q = eqb-true (k % 1023) 0 (and_right (ltb 0 k) _ y) in
        let e : suc ((k - 1) / 1023) ≡ k / 1023 = omega arith in
        rw (y, a, ← e) (chain_next W first n ((k - 1) / 1023) (omega arith)))
        (λ y. let e : (k - 1) / 1023 ≡ k / 1023 = same y in rw (y, ← e) a)
      where
        same : (ltb 0 k && eqb (k % 1023) 0) ≡ false → (k - 1) / 1023 ≡ k / 1023
        same y =
            by-test (ltb 0 k)
            (λ p. let q = eqb-false (k % 1023) 0 (rw p at y) in omega (arith, q, ltb-true 0 k p))
            (λ p. omega (arith, ltb-false 0 k p))

    pub entered-in : InCard W (entered W b k)
    entered-in = rw entered_at (in-at (k / 1023) (omega arith))

-- Cursors ------------------------------------------------------------------------------------------------------------

-- one with none to come has no word that is not all ones
pub every-none : (W : List ℕ) (c : Cursor) → c.left ≡ 0 → every (eqb all_ones) (ahead W c) ≡ true
unfolding ahead_at
every-none W c e = rw e
