-- Levels: their list counted down, and the loops that count and find the partitions of one.
use Rattle.lists.proofs.Prelude.{[], ◌∷◌, ◌≡◌, refl, ℕ, zero, suc, ◌-◌, ◌<◌, arith, below}
use Rattle.state.specs.Levels.{levels}

-- the levels are the numbers below 6
pub levels-below : levels ≡ below 6
unfolding below
levels-below = refl

-- the next lower number
pub below-pred : (v : ℕ) → 0 < v → below v ≡ (v - 1) ∷ below (v - 1)
unfolding below
below-pred zero h = absurd (omega arith)
below-pred (suc v) h = let e : suc v - 1 ≡ v = omega arith in rw e

-- and none below 0
pub below-zero : (v : ℕ) → v ≡ 0 → below v ≡ []
unfolding below
below-zero v e = rw e
