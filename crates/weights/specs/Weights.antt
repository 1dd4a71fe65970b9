-- The weight of a count, and of how few windows have an identifier: binary logarithms in sixteenths, rounded down.
use Rattle.std.specs.Prelude.{Bool, ◌||◌, cond, ℕ, zero, suc, ◌+◌, ◌-◌, ◌^◌, ◌<◌, ◌≤◌, eqb, ltb, leb}

-- the largest number up to n that passes the test, 0 if none does
unfoldable pub largest : (ℕ → Bool) → ℕ → ℕ
largest t zero = zero
largest t (suc n) = cond (t (suc n)) (suc n) (largest t n)

-- S of document 02: the largest a with 2 ^ a at most n ^ 16, for n from 1 to 65,535. The search may begin at 255, as such a power is below 2 ^ 256
unfoldable pub sixteenths : ℕ → ℕ
sixteenths n = largest (λ a. leb (2 ^ a) (n ^ 16)) 255

-- a count f weighs S (f + 1)
unfoldable pub tf_weight : ℕ → ℕ
tf_weight f = sixteenths (f + 1)

-- f windows of n weigh S n - S f; no window, or more than there are, weigh nothing
unfoldable pub idf_weight : ℕ → ℕ → ℕ
idf_weight n f = cond (eqb f 0 || ltb n f) 0 (sixteenths n - sixteenths f)

-- a is the largest number with 2 ^ a at most x
pub record Highest (x a : ℕ) : Type 0 where
  pub reached : 2 ^ a ≤ x
  pub next : x < 2 ^ (a + 1)
