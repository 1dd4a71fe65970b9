-- A signed count, and the same raised by 32,768.
use Rattle.lists.proofs.Prelude.{◌≡◌, ap, ◌∙◌, ℕ, suc, ◌+◌, ◌-◌, ◌<◌, ◌≤◌, arith, leb, ℤ, pos, negsuc, ◌+ℤ◌, ◌-ℤ◌, leb-true, leb-false, le-leb, lt-leb, lt-ltb, le-ltb, by-test}
use mir.Syntax.{w16, w32}
use mir.Val.{SFits}
use Rattle.images.specs.Images.{raised, lowered}

-- a number below 65,536 as a signed one of 32 bits
pub over-fits : (n : ℕ) → n < 65536 → SFits w32 (pos n)
over-fits n h = record { sfits = omega arith }

-- a number from 32,768 on is a count from 0 on
pub lowered-high : (x : ℕ) → 32768 ≤ x → lowered x ≡ pos (x - 32768)
lowered-high x h = rw (le-leb 32768 x h)

-- one below it is a count below 0
pub lowered-low : (x : ℕ) → x < 32768 → lowered x ≡ negsuc (32767 - x)
lowered-low x h = rw (lt-leb 32768 x h)

-- there and back
pub lowered-raised : (z : ℤ) → SFits w16 z → lowered (raised z) ≡ z
lowered-raised (pos n) h = lowered-high (32768 + n) (omega arith) ∙ ap pos (omega arith)
lowered-raised (negsuc n) h = lowered-low (32767 - n) (omega (arith, h.sfits)) ∙ ap negsuc (omega (arith, h.sfits))

pub raised-lowered : (x : ℕ) → x < 65536 → raised (lowered x) ≡ x
raised-lowered x h =
    by-test (leb 32768 x)
    (λ t. rw t (omega (arith, leb-true 32768 x t)))
    (λ t. rw t (omega (arith, leb-false 32768 x t)))

-- a raised count fits 16 bits
pub raised_below : (z : ℤ) → SFits w16 z → raised z < 65536
raised_below (pos n) h = omega (arith, h.sfits)
raised_below (negsuc n) h = omega arith

-- a count and 32,768 together
pub raised-sum : (z : ℤ) → SFits w16 z → z +ℤ pos 32768 ≡ pos (raised z)
raised-sum (pos n) h = ap pos (omega arith)
raised-sum (negsuc n) h = let l : n < 32768 = h.sfits in rw (le-ltb 32768 (suc n) (omega arith)) (ap pos (omega arith))

-- and a number less 32,768
pub lowered-sum : (x : ℕ) → pos x -ℤ pos 32768 ≡ lowered x
lowered-sum x =
    by-test (leb 32768 x)
    (λ t. let h = leb-true 32768 x t in rw (t, le-ltb x 32768 h))
    (λ f. let h = leb-false 32768 x f in rw (f, lt-ltb x 32768 h) (ap negsuc (omega arith)))

-- a lowered number of 16 bits is a signed one of 16 bits
pub lowered-fits : (x : ℕ) → x < 65536 → SFits w16 (lowered x)
lowered-fits x h =
    by-test (leb 32768 x)
    (λ t. let k = leb-true 32768 x t in rw t (record { sfits = omega arith }))
    (λ f. rw f (record { sfits = omega arith }))
