-- The size of a signed number: what fits 16 bits, and how large a sum is.
use mathlib.Core.Bool.{Bool, true, false, cond}
use Prim.Native.Nat.{ℕ, suc, ◌+◌, ◌-◌, ◌≤◌}
use native.Mathlib.Omega.{arith}
use lib.Dec.{ltb}
use lib.IntN.{ℤ, pos, negsuc, nat_abs, ◌+ℤ◌}
use lib.Signed.{mag}
use mir.Syntax.{w16}
use mir.Val.{SFits}

-- a number within ±32,767 fits 16 bits
pub small-fits : (z : ℤ) → nat_abs z ≤ 32767 → SFits w16 z
small-fits (pos n) h = record { sfits = omega arith }
small-fits (negsuc n) h = record { sfits = omega arith }

either : (t : Bool) (x y : ℤ) (n : ℕ) → mag x ≤ n → mag y ≤ n → mag (cond t x y) ≤ n
either true x y n p q = p
either false x y n p q = q

-- a sum is hardly larger than its summands together
pub mag_sum : (a b : ℤ) → mag (a +ℤ b) ≤ mag a + mag b + 1
mag_sum (pos a) (pos b) = omega arith
mag_sum (pos a) (negsuc b) = either (ltb a (suc b)) (negsuc (suc b - suc a)) (pos (a - suc b)) (a + b + 1) (omega arith) (omega arith)
mag_sum (negsuc a) (pos b) = either (ltb b (suc a)) (negsuc (suc a - suc b)) (pos (b - suc a)) (a + b + 1) (omega arith) (omega arith)
mag_sum (negsuc a) (negsuc b) = omega arith
