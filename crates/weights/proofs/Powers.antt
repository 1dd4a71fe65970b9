-- Sixteenth powers, and where the highest set bit of a number stands.
use Rattle.lists.proofs.Prelude.{◌≡◌, ap, ◌∙◌, ℕ, zero, suc, ◌+◌, ◌-◌, ◌*◌, ◌^◌, ◌≤◌, ◌<◌, mul_comm, mul-suc, pow-suc, pow-zero, lt_of_le_of_lt, pow-le-pow_left, by-test, leb, leb-true, leb-false, arith, lit<}
use native.Mathlib.Nat.{mul-zero, pow-lt-pow_left}
use lib.Count.{count_leading_zeros, leading_top}
use lib.Pow.{pow-add, pow_mono}

-- a number of 16 bits has a sixteenth power of 256
pub power-fits : (n : ℕ) → n ≤ 65535 → n ^ 16 < 2 ^ 256
power-fits n h = lt_of_le_of_lt (pow-le-pow_left h 16) (lit< tt)

-- and it is not 0 where the number is not
pub power-positive : (n : ℕ) → 1 ≤ n → 1 ≤ n ^ 16
power-positive n h = pow-le-pow_left h 16

power-power : (n i j : ℕ) → (n ^ i) ^ j ≡ n ^ (i * j)
power-power n i zero = rw (mul-zero i, pow-zero n, pow-zero (n ^ i))
power-power n i (suc j) = rw (pow-suc (n ^ i) j, power-power n i j, mul-suc i j, pow-add n (i * j) i)

-- that of a power of 2
two-power : (j : ℕ) → (2 ^ j) ^ 16 ≡ 2 ^ (16 * j)
two-power j = power-power 2 j 16 ∙ ap (λ (k : ℕ). 2 ^ k) (mul_comm j 16)

-- the highest set bit of a number of 16 bits that is not 0, read as one of 32
module _ (n : ℕ) (lo : 1 ≤ n) (hi : n ≤ 65535) where
  top : (j : ℕ) × (count_leading_zeros 32 n + suc j ≡ 32) × (2 ^ j ≤ n) × (n < 2 ^ suc j)
  top = leading_top 32 n lo (omega arith)

  place : 31 - count_leading_zeros 32 n ≡ top.0
  place = omega (arith, top.1)

  -- its place does not go below 0
  pub leading-fits : count_leading_zeros 32 n ≤ 31
  leading-fits = omega (arith, top.1)

  -- nor above 15
  pub place-fits : 31 - count_leading_zeros 32 n ≤ 15
  place-fits =
      by-test (leb top.0 15)
      (λ e. rw place (leb-true _ _ e))
      (λ e. let h : 65536 ≤ 2 ^ top.0 = pow_mono (leb-false _ _ e) in absurd (omega (arith, h, top.2)))

  -- and tells the sixteenth power to sixteen places
  pub place-reached : 2 ^ (16 * (31 - count_leading_zeros 32 n)) ≤ n ^ 16
  place-reached = rw (place, ← two-power top.0) (pow-le-pow_left top.2 16)

  pub place-next : n ^ 16 < 2 ^ (16 * (31 - count_leading_zeros 32 n) + 16)
  place-next =
      let e : 16 * (31 - count_leading_zeros 32 n) + 16 ≡ 16 * suc top.0 = omega (arith, place) in
      rw (e, ← two-power (suc top.0)) (pow-lt-pow_left top.3 (λ z. absurd (omega arith)))
