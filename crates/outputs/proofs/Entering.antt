-- Entries written one by one, from how many postings each identifier has.
use Rattle.lists.proofs.Prelude.{List, [], ◌∷◌, ◌++◌, ◌≡◌, refl, sym, ap, ◌∙◌, ℕ, suc, ◌+◌, ◌*◌, ◌<◌, ◌≤◌, add-one, arith, length, get_or, drop, length-append, drop_of_length-le, drop-cons, eq-eqb, ne_eqb}
use Rattle.card.specs.Chains.{chain}
use Rattle.card.specs.Cursors.{Chained}
use Rattle.outputs.specs.Contents.{written}
use Rattle.outputs.specs.Entries.{entries_onward}
use Rattle.outputs.proofs.Writing.{written-append, chain-written, chained-written}

-- the entries of the identifiers below i are written, up to word `at`, and writing the others gives the whole
pub record Entering (W₀ : List ℕ) (first n : ℕ) (counts : List ℕ) (W : List ℕ) (at sum i : ℕ) : Type 0 where
  pub few : i ≤ length counts
  pub sums : sum ≤ 65535 * i
  pub far : at ≤ 8 + 3 * i
  pub links : chain W first n ≡ chain W₀ first n
  pub chained : Chained W first n
  pub room : at + length (entries_onward i sum (drop i counts)) ≤ 1023 * n
  pub rest : written W₀ (chain W₀ first n) 8 (entries_onward 0 0 counts) ≡ written W (chain W₀ first n) at (entries_onward i sum (drop i counts))

module _ (W₀ : List ℕ) (first n : ℕ) (counts : List ℕ) where
  -- none is written at first
  pub entering-start : Chained W₀ first n → 8 + length (entries_onward 0 0 counts) ≤ 1023 * n → Entering W₀ first n counts W₀ 8 0 0
  entering-start g r = record { few = omega arith; sums = omega arith; far = omega arith; links = refl; chained = g; room = r; rest = refl }

  module _ (W : List ℕ) (at sum i : ℕ) (w : Entering W₀ first n counts W at sum i) where
    -- all are written
    pub entering-end : length counts ≤ i → W ≡ written W₀ (chain W₀ first n) 8 (entries_onward 0 0 counts)
    unfolding entries_onward
    entering-end h = sym (w.rest ∙ rw (drop_of_length-le counts h))

    module _ (h : i < length counts) where
      turn : drop i counts ≡ get_or counts i 0 ∷ drop (suc i) counts
      turn = drop-cons counts i 0 h

      -- an identifier without postings
      pub entering-past : get_or counts i 0 ≡ 0 → Entering W₀ first n counts W at sum (i + 1)
      unfolding entries_onward
      entering-past e =
          let q : entries_onward i sum (drop i counts) ≡ entries_onward (i + 1) sum (drop (i + 1) counts) = rw (turn, eq-eqb (get_or counts i 0) 0 e, add-one i) in
          record { few = omega arith; sums = omega (arith, w.sums); far = omega (arith, w.far); links = w.links; chained = w.chained; room = rw q at w.room; rest = w.rest ∙ rw q }

      module _ (c : ℕ) (s : c ≡ get_or counts i 0) (e : c ≡ 0 → ⊥) where
        entry : entries_onward i sum (drop i counts) ≡ (i ∷ c ∷ sum ∷ []) ++ entries_onward (i + 1) (sum + c) (drop (i + 1) counts)
        unfolding entries_onward
        entry = rw (turn, ← s, ne_eqb c 0 e, add-one i)

        -- one with some has room for its entry
        pub entering-room : at + 3 ≤ 1023 * n
        entering-room = omega (arith, w.room, ap length entry, length-append (i ∷ c ∷ sum ∷ []) (entries_onward (i + 1) (sum + c) (drop (i + 1) counts)))

        -- and its entry is written
        pub entering-on : (W₁ : List ℕ) → c ≤ 65535 → W₁ ≡ written W (chain W first n) at (i ∷ c ∷ sum ∷ []) → Entering W₀ first n counts W₁ (at + 3) (sum + c) (i + 1)
        entering-on W₁ small x =
            let bs = chain W₀ first n in
            let vs = i ∷ c ∷ sum ∷ [] in
            let y : W₁ ≡ written W bs at vs = x ∙ rw w.links in
            record {
              few = omega arith;
              sums = omega (arith, w.sums);
              far = omega (arith, w.far);
              links = rw y (chain-written bs W at vs first n ∙ w.links);
              chained = rw y (chained-written bs W at vs first n w.chained);
              room = omega (arith, w.room, ap length entry, length-append vs (entries_onward (i + 1) (sum + c) (drop (i + 1) counts)));
              rest = w.rest ∙ rw entry (written-append bs W at vs (entries_onward (i + 1) (sum + c) (drop (i + 1) counts)) ∙ rw y);
            }
