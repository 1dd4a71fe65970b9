-- Blocks freed one by one along their chain.
use Rattle.lists.proofs.Prelude.{true, false, not, List, [], ◌∷◌, inl, inr, ◌≡◌, refl, ℕ, zero, suc, ◌+◌, ◌-◌, ◌*◌, ◌<◌, arith, add-one, eqb, ltb, length, set, replicate, length-replicate, sets, length-sets, eqb-false, ltb-true, ltb-false, not-true, AllOf, elem, different, by-test, and_left, and_right, or-none, get_or-sets-out}
use Rattle.words.specs.Words.{all_ones}
use Rattle.card.specs.Blocks.{link}
use Rattle.card.specs.Chains.{chain}
use Rattle.blocks.specs.Writes.{release}
use Rattle.card.specs.Cursors.{InCard, Chained}
use Rattle.card.proofs.Chains.{chain_more, chain-none}

-- n words of all ones; the name stays shut, as 1,024 words written out are dear to compare
pub ones : ℕ → List ℕ
ones n = replicate n all_ones

length-ones : (n : ℕ) → length (ones n) ≡ n
unfolding ones
length-ones n = length-replicate n all_ones

-- one block freed is 1,024 of them stored
pub release-one : (W : List ℕ) (b : ℕ) → release W (b ∷ []) ≡ sets W (1024 * b) (ones 1024)
unfolding release ones
release-one W b = refl

-- one of n that are still to be stored from i on
pub ones-more : (W : List ℕ) (i n : ℕ) → 0 < n → sets W i (ones n) ≡ sets (set W i all_ones) (i + 1) (ones (n - 1))
unfolding ones
ones-more W i zero h = absurd (omega arith)
ones-more W i (suc n) h = let e : suc n - 1 ≡ n = omega arith in rw (e, add-one i)

-- none is left
pub ones_none : (W : List ℕ) (i n : ℕ) → n ≡ 0 → sets W i (ones n) ≡ W
unfolding ones
ones_none W i n e = rw e

module _ (W : List ℕ) (b : ℕ) where
  -- as many words as before
  pub length-one : length (release W (b ∷ [])) ≡ length W
  length-one = rw (release-one W b) (length-sets W (1024 * b) (ones 1024))

  link-kept : (c : ℕ) → (c ≡ b → ⊥) → link (release W (b ∷ [])) c ≡ link W c
  link-kept c d =
      rw (release-one W b)
      (get_or-sets-out (ones 1024) W (1024 * b) (1024 * c + 1023) 0
      (by-test (ltb c b)
      (λ y. inl (omega (arith, ltb-true c b y)))
      (λ y. inr (rw (length-ones 1024) (omega (arith, ltb-false c b y))))))

  -- the chain of other blocks is as it was
  chain-kept : (c n : ℕ) → elem b (chain W c n) ≡ false → chain (release W (b ∷ [])) c n ≡ chain W c n
  unfolding chain
  chain-kept c zero e = refl
  chain-kept c (suc n) e =
      let o = or-none (eqb c b) (elem b (chain W (link W c) n)) e in
      rw (link-kept c (eqb-false c b o.0), chain-kept (link W c) n o.1)

  all-kept : (l : List ℕ) → AllOf (InCard W) l → AllOf (InCard (release W (b ∷ []))) l
  unfolding AllOf
  all-kept [] g = tt
  all-kept (c ∷ l) g = (record { few = g.0.few; inside = omega (arith, length-one, g.0.inside) }, all-kept l g.1)

  -- the first block of a chain is freed: what is left is the chain from its link on, of different blocks of the card
  pub release-more : (n : ℕ) → 0 < n → Chained W b n → different (chain W b n) ≡ true
      → Chained (release W (b ∷ [])) (link W b) (n - 1)
      × (different (chain (release W (b ∷ [])) (link W b) (n - 1)) ≡ true)
      × (release W (chain W b n) ≡ release (release W (b ∷ [])) (chain (release W (b ∷ [])) (link W b) (n - 1)))
  unfolding AllOf release
  release-more n h g e =
      let m = chain_more W b n h in
      let d = rw m at e in
      let l = chain W (link W b) (n - 1) in
      let k = chain-kept (link W b) (n - 1) (not-true (elem b l) (and_left (not (elem b l)) (different l) d)) in
      (rw k (all-kept l (rw m at g).1), rw k (and_right (not (elem b l)) (different l) d), rw (m, k))

  -- a chain of no block changes nothing
  pub release-none : (n : ℕ) → n ≡ 0 → release W (chain W b n) ≡ W
  unfolding release
  release-none n e = rw (chain-none W b n e)
