-- A signed number of 16 bits, its sign and its size.
use Rattle.lists.proofs.Prelude.{◌≡◌, zero, suc, ◌≤◌, arith, ℤ, pos, negsuc, neg_ℤ, nat_abs, ◌-ℤ◌, +ℤ_idl}
use mir.Syntax.{w16}
use mir.Val.{SFits}
use mir.Facts.{sfits_lit}

-- 0 less a number is the number negated
pub zero-sub : (z : ℤ) → pos 0 -ℤ z ≡ neg_ℤ z
zero-sub z = +ℤ_idl (neg_ℤ z)

-- a number of 15 bits can be negated
pub neg-fits : (z : ℤ) → nat_abs z ≤ 32767 → SFits w16 (neg_ℤ z)
neg-fits (pos zero) h = sfits_lit tt
neg-fits (pos (suc n)) h = record { sfits = omega arith }
neg-fits (negsuc n) h = record { sfits = omega arith }
