-- A chain block by block: the rule of the whole is the rule of what is left.
use Rattle.lists.proofs.Prelude.{Bool, false, ◌&&◌, List, [], ◌∷◌, ◌≡◌, refl, ℕ, zero, suc, ◌-◌, ◌<◌, ◌≤◌, arith, eqb, ltb, lt-ltb, le-ltb, AllOf}
use Rattle.card.specs.Blocks.{no_block, link}
use Rattle.card.specs.Chains.{chain, chain_rule}
use Rattle.card.specs.Cursors.{InCard, Chained}

-- the rule resumed: n blocks from b on, or none any more, where b is the last link
unfoldable pub rest_rule : List ℕ → ℕ → ℕ → ℕ → Bool
rest_rule W limit b zero = eqb b no_block
rest_rule W limit b (suc n) = ltb b limit && rest_rule W limit (link W b) n

module _ (W : List ℕ) (limit : ℕ) where
  -- a chain of at least one block keeps the rule where what is left of it at the start does
  pub rule-rest : (b n : ℕ) → 0 < n → chain_rule W limit b n ≡ rest_rule W limit b n
  unfolding chain_rule rest_rule
  rule-rest b zero h = absurd (omega arith)
  rule-rest b (suc zero) h = refl
  rule-rest b (suc (suc n)) h = rw (rule-rest (link W b) (suc n) (omega arith))

  -- no block is no chain
  pub rule-none : (b n : ℕ) → n ≡ 0 → chain_rule W limit b n ≡ false
  unfolding chain_rule
  rule-none b n e = rw e

  -- what is left from a block that is not on the card
  pub rest_out : (b n : ℕ) → 0 < n → limit ≤ b → rest_rule W limit b n ≡ false
  unfolding rest_rule
  rest_out b zero h l = absurd (omega arith)
  rest_out b (suc n) h l = rw (le-ltb b limit l)

  -- from one that is
  pub rest-on : (b n : ℕ) → 0 < n → b < limit → rest_rule W limit b n ≡ rest_rule W limit (link W b) (n - 1)
  unfolding rest_rule
  rest-on b zero h l = absurd (omega arith)
  rest-on b (suc n) h l = let e : suc n - 1 ≡ n = omega arith in rw (lt-ltb b limit l, e)

  -- past the last
  pub rest_end : (b n : ℕ) → n ≡ 0 → rest_rule W limit b n ≡ eqb b no_block
  unfolding rest_rule
  rest_end b n e = rw e

module _ (W : List ℕ) where
  -- a chain is its first block and the chain from that one's link on
  pub chain_more : (b n : ℕ) → 0 < n → chain W b n ≡ b ∷ chain W (link W b) (n - 1)
  unfolding chain
  chain_more b zero h = absurd (omega arith)
  chain_more b (suc n) h = let e : suc n - 1 ≡ n = omega arith in rw e

  -- a chain of no block
  pub chain-none : (b n : ℕ) → n ≡ 0 → chain W b n ≡ []
  unfolding chain
  chain-none b n e = rw e

  -- the first block of a chain is on the card, and so are those from its link on
  pub first-in : (b n : ℕ) → Chained W b (suc n) → InCard W b × Chained W (link W b) n
  unfolding chain AllOf
  first-in b n g = g

  -- the same of n blocks as a loop counts them
  pub chained_more : (b n : ℕ) → 0 < n → Chained W b n → InCard W b × Chained W (link W b) (n - 1)
  chained_more b zero h g = absurd (omega arith)
  chained_more b (suc n) h g = let e : suc n - 1 ≡ n = omega arith in rw e (first-in b n g)
