-- What storing and releasing leave: the card's length, every block that they do not name, and every chain of such blocks.
use Rattle.lists.proofs.Prelude.{Bool, true, false, not, ◌&&◌, List, [], ◌∷◌, ◌++◌, ◌≡◌, refl, sym, ap, ap₂, ◌∙◌, ℕ, zero, suc, ◌*◌, ◌-◌, ◌<◌, ◌≤◌, arith, eqb, ltb, length, get_or, take, drop, replicate, length-append, length-replicate, length-take, sets, length-sets, ltb-true, ltb-false, eqb-false, eq-eqb, not-true, every, elem, by-test, or_right, or-none, sets-before, sets-past, every-elem}
use Rattle.words.specs.Words.{all_ones}
use Rattle.card.specs.Blocks.{no_block, block, link}
use Rattle.card.specs.Chains.{chain, chain_rule, content}
use Rattle.blocks.specs.Writes.{put_block, store, release}
use Rattle.card.proofs.Links.{link-block}

-- One block --------------------------------------------------------------------------------------------------------

-- content, one word over and over up to the last, and the last: a whole block
pub length-laid : (a : ℕ) (c : List ℕ) (next : ℕ) → length c ≤ 1023 → length (c ++ replicate (1023 - length c) a ++ (next ∷ [])) ≡ 1024
length-laid a c next h =
    omega (
      arith,
      length-append (c ++ replicate (1023 - length c) a) (next ∷ []),
      length-append c (replicate (1023 - length c) a),
      length-replicate (1023 - length c) a,
    )

-- what is put into one block has room there
pub short : (c : List ℕ) → length (take 1023 c) ≤ 1023
short c = omega (arith, length-take 1023 c)

-- a block written over leaves every other
pub block-other : (W vs : List ℕ) (b d : ℕ) → length vs ≡ 1024 → (b ≡ d → ⊥) → block (sets W (1024 * b) vs) d ≡ block W d
block-other W vs b d e h =
    by-test (ltb b d)
    (λ y. let l : b < d = ltb-true b d y in ap (λ (r : List ℕ). take 1024 r) (sets-past W (1024 * b) vs (1024 * d) (omega arith)))
    (λ f. let l : d ≤ b = ltb-false b d f in sets-before W (1024 * b) vs (1024 * d) 1024 (omega (arith, h)))

-- and so does a block that is put
pub put_other : (W : List ℕ) (b : ℕ) (c : List ℕ) (next d : ℕ) → length c ≤ 1023 → (b ≡ d → ⊥) → block (put_block W b c next) d ≡ block W d
put_other W b c next d s h = simp (block-other, length-laid)

-- Many blocks ------------------------------------------------------------------------------------------------------

-- the card keeps its length where a block is put
pub length-put : (W : List ℕ) (b : ℕ) (c : List ℕ) (next : ℕ) → length (put_block W b c next) ≡ length W
length-put W b c next = simp length-sets

-- so it does however many are stored to
pub length-store : (W bs c : List ℕ) → length (store W bs c) ≡ length W
unfolding store
length-store W [] c = refl
length-store W (b ∷ []) c = simp length-sets
length-store W (b ∷ d ∷ bs) c = length-store (put_block W b (take 1023 c) d) (d ∷ bs) (drop 1023 c) ∙ length-put W b (take 1023 c) d

-- or released
pub length-release : (W bs : List ℕ) → length (release W bs) ≡ length W
unfolding release
length-release W [] = refl
length-release W (b ∷ bs) =
    length-release (sets W (1024 * b) (replicate 1024 all_ones)) bs ∙ length-sets W (1024 * b) (replicate 1024 all_ones)

-- a block that is not named keeps its words
pub store_apart : (W bs c : List ℕ) (d : ℕ) → elem d bs ≡ false → block (store W bs c) d ≡ block W d
unfolding store
store_apart W [] c d n = refl
store_apart W (b ∷ []) c d n =
    let s = short c in
    let h : b ≡ d → ⊥ = eqb-false b d (or-none (eqb b d) false n).0 in
    rw put_other
store_apart W (b ∷ e ∷ bs) c d n =
    let o = or-none (eqb b d) (elem d (e ∷ bs)) n in
    store_apart (put_block W b (take 1023 c) e) (e ∷ bs) (drop 1023 c) d o.1
    ∙ put_other W b (take 1023 c) e d (short c) (eqb-false b d o.0)

-- the same for a release
pub release-apart : (W bs : List ℕ) (d : ℕ) → elem d bs ≡ false → block (release W bs) d ≡ block W d
unfolding release
release-apart W [] d n = refl
release-apart W (b ∷ bs) d n =
    let o = or-none (eqb b d) (elem d bs) n in
    release-apart (sets W (1024 * b) (replicate 1024 all_ones)) bs d o.1
    ∙ block-other W (replicate 1024 all_ones) b d (length-replicate 1024 all_ones) (eqb-false b d o.0)

-- Two cards that agree ---------------------------------------------------------------------------------------------

-- W' and W have the same words in these blocks
abbrev pub Agree : List ℕ → List ℕ → List ℕ → Type 0
Agree W' W bs = (d : ℕ) → elem d bs ≡ true → block W' d ≡ block W d

-- no number of the first list is in the second
abbrev pub apart : List ℕ → List ℕ → Bool
apart ds bs = every (λ d. not (elem d bs)) ds

-- a store leaves the blocks that stand apart from it
pub store-agrees : (W bs c ds : List ℕ) → apart ds bs ≡ true → Agree (store W bs c) W ds
store-agrees W bs c ds e d m = store_apart W bs c d (not-true (elem d bs) (every-elem (λ d. not (elem d bs)) ds d e m))

-- and so does a release
pub release-agrees : (W bs ds : List ℕ) → apart ds bs ≡ true → Agree (release W bs) W ds
release-agrees W bs ds e d m = release-apart W bs d (not-true (elem d bs) (every-elem (λ d. not (elem d bs)) ds d e m))

module _ (W' W : List ℕ) where
  -- the link is the same where the block is
  pub link-agree : (b : ℕ) → block W' b ≡ block W b → link W' b ≡ link W b
  link-agree b e = link-block W' b ∙ ap (λ (r : List ℕ). get_or r 1023 0) e ∙ sym (link-block W b)

  first : (b : ℕ) (bs : List ℕ) → Agree W' W (b ∷ bs) → block W' b ≡ block W b
  first b bs h = h b (rw (eq-eqb b b refl))

  later : (b : ℕ) (bs : List ℕ) → Agree W' W (b ∷ bs) → Agree W' W bs
  later b bs h d m = h d (or_right (eqb b d) (elem d bs) m)

  -- a chain is the same on both
  pub chain-agree : (b n : ℕ) → Agree W' W (chain W b n) → chain W' b n ≡ chain W b n
  unfolding chain
  chain-agree b zero h = refl
  chain-agree b (suc n) h =
      let e = link-agree b (first b (chain W (link W b) n) h) in
      ap (λ (r : List ℕ). b ∷ r) (ap (λ (k : ℕ). chain W' k n) e ∙ chain-agree (link W b) n (later b (chain W (link W b) n) h))

  -- and so is whether it keeps the rule
  pub rule-agree : (limit b n : ℕ) → Agree W' W (chain W b n) → chain_rule W' limit b n ≡ chain_rule W limit b n
  unfolding chain chain_rule
  rule-agree limit b zero h = refl
  rule-agree limit b (suc zero) h =
      let e = link-agree b (first b (chain W (link W b) 0) h) in
      ap (λ (k : ℕ). ltb b limit && eqb k no_block) e
  rule-agree limit b (suc (suc n)) h =
      let e = link-agree b (first b (chain W (link W b) (suc n)) h) in
      ap (λ (r : Bool). ltb b limit && r)
      (ap (λ (k : ℕ). chain_rule W' limit k (suc n)) e ∙ rule-agree limit (link W b) (suc n) (later b (chain W (link W b) (suc n)) h))

  -- and so is the content
  pub content-agree : (bs : List ℕ) → Agree W' W bs → content W' bs ≡ content W bs
  unfolding content
  content-agree [] h = refl
  content-agree (b ∷ bs) h =
      ap₂ (λ (r s : List ℕ). r ++ s) (ap (λ (r : List ℕ). take 1023 r) (first b bs h)) (content-agree bs (later b bs h))
