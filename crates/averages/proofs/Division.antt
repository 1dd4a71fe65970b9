-- A quotient and its remainder.
use Rattle.lists.proofs.Prelude.{◌≡◌, ℕ, ◌+◌, ◌*◌, ◌/◌, ◌%◌, ◌<◌, ◌≤◌}
use native.Mathlib.Nat.{mod-lt, div-add-mod', div-le_of_le-mul, mul_comm}

module _ (t f : ℕ) where
  -- together they are the sum again
  pub whole : t / f * f + t % f ≡ t
  whole = div-add-mod' t f

  -- what is left over is below the divisor
  pub left_below : 1 ≤ f → t % f < f
  left_below h = mod-lt t h

  -- at most a to each of f is a mean of at most a
  pub mean-most : (a : ℕ) → t ≤ a * f → t / f ≤ a
  mean-most a h = div-le_of_le-mul f {m = t} {n = a} (rw (mul_comm f a) h)
