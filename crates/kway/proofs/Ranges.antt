-- Sums of 0, and the greatest key of a group of lists beside a group of one.
use Prim.Native.Nat.{max}
use Rattle.lists.proofs.Prelude.{true, List, [], ◌∷◌, ◌≡◌, refl, ℕ, arith, ℤ, pos, AllOf}
use Rattle.keyed.specs.Keys.{Item, reach, topmost_from}
use Rattle.keyed.specs.Groups.{Group, top_all}
use Rattle.keyed.proofs.Groups as G
use Rattle.kway.specs.Ranges.{total_z, in_ranges}

-- sums of 0 add up to 0
pub total-none : (v : List ℤ) → AllOf G.Zero v → total_z v ≡ pos 0
unfolding AllOf
total-none [] z = refl
total-none (x ∷ v) z = rw (z.0, total-none v z.1)

-- they pass the test
pub quiet : (v : List ℤ) → AllOf G.Zero v → in_ranges v ≡ true
unfolding AllOf
quiet [] z = refl
quiet (x ∷ v) z = rw (z.0, total-none v z.1)

-- the greatest key of both groups
pub top-step : (g : Group) (l : List Item) (x y t : ℕ) → x ≡ topmost_from 0 g → y ≡ reach l → t ≡ max x y → top_all 0 (g ∷ (l ∷ []) ∷ []) ≡ t
top-step g l x y t p q e = omega arith
