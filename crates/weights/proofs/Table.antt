-- What the rule of a table of thresholds says of each entry.
use Rattle.lists.proofs.Prelude.{true, List, ◌≡◌, ℕ, ◌-◌, ◌^◌, ◌≤◌, ◌<◌, le_trans, lt_of_le_of_lt, pow-le-pow_left, arith, eqb, leb, leb-true, ltb-true, eqb-true, and_left, and_right, length, get_or, every-up_to}
use Rattle.weights.specs.Thresholds.{is_threshold, thresholds}

module _ (a x n : ℕ) (e : is_threshold a x ≡ true) where
  -- a number from it on has a sixteenth power that is large enough
  from-threshold : x ≤ n → 2 ^ a ≤ n ^ 16
  unfolding is_threshold
  from-threshold h = le_trans (leb-true _ _ (and_left _ _ e)) (pow-le-pow_left h 16)

  -- and a number before it has none
  before-threshold : n < x → n ^ 16 < 2 ^ a
  unfolding is_threshold
  before-threshold h = lt_of_le_of_lt (pow-le-pow_left {n = n} {m = x - 1} (omega arith) 16) (ltb-true _ _ (and_right (leb (2 ^ a) (x ^ 16)) _ e))

module _ (l : List ℕ) (e : thresholds l ≡ true) where
  pub table-long : length l ≡ 256
  unfolding thresholds
  table-long = eqb-true _ _ (and_left _ _ e)

  entry : (a : ℕ) → a < 256 → is_threshold a (get_or l a 0) ≡ true
  unfolding thresholds
  entry a h = every-up_to (λ a. is_threshold a (get_or l a 0)) 256 (and_right (eqb (length l) 256) _ e) a h

  -- so an entry tells on which side of it the logarithm of n is
  pub from-entry : (a n : ℕ) → a < 256 → get_or l a 0 ≤ n → 2 ^ a ≤ n ^ 16
  from-entry a n h = from-threshold a (get_or l a 0) n (entry a h)

  pub before-entry : (a n : ℕ) → a < 256 → n < get_or l a 0 → n ^ 16 < 2 ^ a
  before-entry a n h = before-threshold a (get_or l a 0) n (entry a h)
