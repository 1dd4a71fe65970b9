-- A signed count of 16 bits: whether it is 0, its size, and what it counts.
use Rattle.lists.proofs.Prelude.{◌≡◌, refl, sym, zero, suc, ◌-◌, ◌<◌, arith, eqb, leb, ℤ, pos, negsuc, nat_abs, ne_eqb, le-leb}
use lib.Signed.{lt_z}
use mir.Syntax.{w16}
use mir.Val.{SFits, of_z}
use Rattle.postings.specs.Merge.{is_zero}

-- its bits are 0 where it is 0
pub zero_bits : (z : ℤ) → SFits w16 z → eqb (of_z w16 z) 0 ≡ is_zero z
zero_bits (pos zero) f = refl
zero_bits (pos (suc n)) f = ne_eqb (suc n) 0 (λ e. omega arith)
zero_bits (negsuc n) f = let h : n < 32768 = f.sfits in ne_eqb (65536 - suc n) 0 (λ e. omega arith)

-- only -32,768 has a size of 16 bits
pub small_size : (z : ℤ) → SFits w16 z → lt_z (negsuc 32767) z ≡ leb (nat_abs z) 32767
small_size (pos n) f = let h : n < 32768 = f.sfits in sym (le-leb n 32767 (omega arith))
small_size (negsuc n) f = refl
