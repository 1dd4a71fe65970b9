-- Words written one after another along a chain: its links stay as they are.
use Rattle.lists.proofs.Prelude.{List, [], ◌∷◌, ◌++◌, ◌≡◌, refl, sym, ap, ◌∙◌, ℕ, zero, suc, ◌+◌, ◌-◌, ◌*◌, ◌/◌, ◌%◌, ◌<◌, ◌≤◌, add-one, arith, length, get_or, set, drop, length-set, drop_of_length-le, drop-cons, get_or-set_other, AllOf}
use Rattle.card.specs.Blocks.{link}
use Rattle.card.specs.Chains.{chain, chain_rule}
use Rattle.card.specs.Cursors.{InCard, Chained}
use Rattle.outputs.specs.Contents.{spot_of, written, reached, entered}
use Rattle.outputs.proofs.Places.{reached-in, entered_at, entered-in}

-- a word that is no link is set: every link stays
module _ (W : List ℕ) (b r v : ℕ) (h : r < 1023) where
  abbrev W' : List ℕ
  W' = set W (1024 * b + r) v

  pub link_set : (d : ℕ) → link W' d ≡ link W d
  link_set d = get_or-set_other W (1024 * b + r) (1024 * d + 1023) v 0 (λ e. omega arith)

  -- so does every chain
  pub chain-set : (first n : ℕ) → chain W' first n ≡ chain W first n
  unfolding chain
  chain-set first zero = refl
  chain-set first (suc n) = ap (λ (l : List ℕ). first ∷ l) (ap (λ (d : ℕ). chain W' d n) (link_set first) ∙ chain-set (link W first) n)

  -- and whether it keeps the rule
  pub rule-set : (limit first n : ℕ) → chain_rule W' limit first n ≡ chain_rule W limit first n
  unfolding chain_rule
  rule-set limit first zero = refl
  rule-set limit first (suc zero) = rw (link_set first)
  rule-set limit first (suc (suc n)) = rw (link_set first, rule-set limit (link W first) (suc n))

  all_in : (l : List ℕ) → AllOf (InCard W) l → AllOf (InCard W') l
  unfolding AllOf
  all_in [] g = tt
  all_in (d ∷ l) g = (record { few = g.0.few; inside = omega (arith, length-set W (1024 * b + r) v, g.0.inside) }, all_in l g.1)

  -- and its blocks are blocks of the card
  pub chained-set : (first n : ℕ) → Chained W first n → Chained W' first n
  chained-set first n g = rw (chain-set first n) (all_in (chain W first n) g)

-- i of the words vs are written from word o on, the last of the content so far in block b, and writing the others gives the whole
pub record Writing (W₀ : List ℕ) (first n o : ℕ) (vs W : List ℕ) (b i : ℕ) : Type 0 where
  pub most : i ≤ length vs
  pub links : chain W first n ≡ chain W₀ first n
  pub chained : Chained W first n
  pub block : b ≡ reached (chain W₀ first n) (o + i)
  pub rest : written W₀ (chain W₀ first n) o vs ≡ written W (chain W₀ first n) (o + i) (drop i vs)

module _ (W₀ : List ℕ) (first n o : ℕ) (vs : List ℕ) where
  -- at first none
  pub writing_start : (b : ℕ) → Chained W₀ first n → b ≡ reached (chain W₀ first n) o → Writing W₀ first n o vs W₀ b 0
  writing_start b g a =
      let e : o + 0 ≡ o = omega arith in
      record { most = omega arith; links = refl; chained = g; block = rw e a; rest = rw e }

  module _ (W : List ℕ) (b i : ℕ) (room : o + length vs ≤ 1023 * n) (w : Writing W₀ first n o vs W b i) where
    -- the end
    pub writing-end : length vs ≤ i → W ≡ written W₀ (chain W₀ first n) o vs
    writing-end h = sym (w.rest ∙ rw (drop_of_length-le vs h))

    here : b ≡ reached (chain W first n) (o + i)
    here = rw w.links w.block

    module _ (h : i < length vs) where
      -- what one turn asks for
      pub writing-needs : InCard W b × InCard W (entered W b (o + i))
      writing-needs =
          (reached-in W first n w.chained (o + i) b (omega arith) here, entered-in W first n w.chained (o + i) b (omega arith) here)

      -- one turn
      pub writing-on : (d : ℕ) → d ≡ entered W b (o + i) → (W' : List ℕ) → W' ≡ set W (1024 * d + (o + i) % 1023) (get_or vs i 0) → Writing W₀ first n o vs W' d (i + 1)
      writing-on d x W' y =
          let bs = chain W₀ first n in
          let r = (o + i) % 1023 in
          let v = get_or vs i 0 in
          let m : r < 1023 = omega arith in
          let a : d ≡ get_or bs ((o + i) / 1023) 0 = x ∙ rw w.links at (entered_at W first n w.chained (o + i) b (omega arith) here) in
          let e : o + (i + 1) ≡ suc (o + i) = omega arith in
          let e₂ : (o + (i + 1) - 1) / 1023 ≡ (o + i) / 1023 = omega arith in
          record {
            most = omega arith;
            links = rw y (chain-set W d r v m first n ∙ w.links);
            chained = rw y (chained-set W d r v m first n w.chained);
            block = rw e₂ a;
            rest = w.rest ∙ rw (drop-cons vs i 0 h, y, a, e, add-one i);
          }

-- Written as a whole ---------------------------------------------------------------------------------------------------

module _ (bs : List ℕ) where
  -- words written one after another
  pub written-append : (W : List ℕ) (k : ℕ) (vs ws : List ℕ) → written W bs k (vs ++ ws) ≡ written (written W bs k vs) bs (k + length vs) ws
  written-append W k [] ws = let e : k + 0 ≡ k = omega arith in rw e
  written-append W k (v ∷ vs) ws =
      let e : k + suc (length vs) ≡ suc k + length vs = omega arith in
      rw e (written-append (set W (spot_of bs k) v) (suc k) vs ws)

  -- leave every chain
  pub chain-written : (W : List ℕ) (k : ℕ) (vs : List ℕ) (first n : ℕ) → chain (written W bs k vs) first n ≡ chain W first n
  chain-written W k [] first n = refl
  chain-written W k (v ∷ vs) first n =
      chain-written (set W (spot_of bs k) v) (suc k) vs first n ∙ chain-set W (get_or bs (k / 1023) 0) (k % 1023) v (omega arith) first n

  -- of blocks of the card
  pub chained-written : (W : List ℕ) (k : ℕ) (vs : List ℕ) (first n : ℕ) → Chained W first n → Chained (written W bs k vs) first n
  chained-written W k [] first n g = g
  chained-written W k (v ∷ vs) first n g =
      chained-written (set W (spot_of bs k) v) (suc k) vs first n (chained-set W (get_or bs (k / 1023) 0) (k % 1023) v (omega arith) first n g)
