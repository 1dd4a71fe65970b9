-- What logarithms and weights are, and how they grow.
use Rattle.lists.proofs.Prelude.{true, false, ◌||◌, ◌≡◌, refl, ap₂, ℕ, ◌+◌, ◌-◌, ◌*◌, ◌^◌, ◌≤◌, ◌<◌, le_trans, le_of_eq, mul-le-mul, pow-le-pow_left, arith, leb, ltb, eqb, le-leb, lt-leb, leb-true, leb-false, le-ltb, lt-ltb, ne_eqb, by-test, or_right}
use native.Mathlib.Nat.{sub-le}
use lib.Pow.{pow_mono}
use Rattle.weights.specs.Weights.{largest, sixteenths, tf_weight, idf_weight, Highest}
use Rattle.weights.proofs.Largest.{largest-le, largest-top, largest-only, largest-more}
use Rattle.weights.proofs.Powers.{power-fits, power-positive}

-- ---- the logarithm in sixteenths

module _ (n : ℕ) (lo : 1 ≤ n) (hi : n ≤ 65535) where
  past : leb (2 ^ 256) (n ^ 16) ≡ false
  past = lt-leb _ _ (power-fits n hi)

  -- the bound of 255 in the definition leaves nothing out
  pub sixteenths-highest : Highest (n ^ 16) (sixteenths n)
  unfolding sixteenths
  sixteenths-highest =
      let top = largest-top (λ a. leb (2 ^ a) (n ^ 16)) (le-leb _ _ (power-positive n lo)) 255 past in
      record { reached = leb-true _ _ top.0; next = leb-false _ _ top.1 }

  -- no other number is the highest
  pub sixteenths-only : (a : ℕ) → Highest (n ^ 16) a → sixteenths n ≡ a
  unfolding sixteenths
  sixteenths-only a t = largest-only (λ a. leb (2 ^ a) (n ^ 16)) falls 255 a past (le-leb _ _ t.reached) (lt-leb _ _ t.next)
    where
      falls : (i j : ℕ) → i ≤ j → leb (2 ^ j) (n ^ 16) ≡ true → leb (2 ^ i) (n ^ 16) ≡ true
      falls i j h e = le-leb _ _ (le_trans (pow_mono h) (leb-true _ _ e))

-- a larger number has no smaller one
pub sixteenths-grow : (m n : ℕ) → m ≤ n → sixteenths m ≤ sixteenths n
unfolding sixteenths
sixteenths-grow m n h =
    largest-more (λ a. leb (2 ^ a) (m ^ 16)) (λ a. leb (2 ^ a) (n ^ 16)) (λ a e. le-leb _ _ (le_trans (leb-true _ _ e) (pow-le-pow_left h 16))) 255

sixteenths-most : (n : ℕ) → sixteenths n ≤ 255
unfolding sixteenths
sixteenths-most n = largest-le (λ a. leb (2 ^ a) (n ^ 16)) 255

-- ---- the weight of a count

-- no count, no weight
pub tf-none : tf_weight 0 ≡ 0
unfolding largest sixteenths tf_weight
tf-none = refl

pub tf-proper : (f : ℕ) → tf_weight f ≡ sixteenths (f + 1)
unfolding tf_weight
tf-proper f = refl

-- a larger count weighs no less
pub tf-grows : (f g : ℕ) → f ≤ g → tf_weight f ≤ tf_weight g
unfolding tf_weight
tf-grows f g h = sixteenths-grow (f + 1) (g + 1) (omega arith)

-- no count of a window weighs more
pub tf-most : (f : ℕ) → f ≤ 32767 → tf_weight f ≤ 240
unfolding largest sixteenths tf_weight
tf-most f h = le_trans (tf-grows f 32767 h) (le_of_eq {m = tf_weight 32767} refl)

-- ---- the weight of n and f

-- no window has it
pub idf-none : (n : ℕ) → idf_weight n 0 ≡ 0
unfolding idf_weight
idf-none n = refl

-- more windows have it than there are
pub idf-past : (n f : ℕ) → n < f → idf_weight n f ≡ 0
unfolding idf_weight
idf-past n f h = rw (or_right (eqb f 0) _ (lt-ltb n f h))

-- some windows of those that are there
pub idf-proper : (n f : ℕ) → 1 ≤ f → f ≤ n → idf_weight n f ≡ sixteenths n - sixteenths f
unfolding idf_weight
idf-proper n f lo le = rw (ne_eqb f 0 (λ e. omega arith), le-ltb n f le) (ap₂ (λ (m g : ℕ). sixteenths m - sixteenths g) (omega arith) (omega arith))

-- no n and f weigh more, whatever a card says
pub idf-most : (n f : ℕ) → idf_weight n f ≤ 255
unfolding idf_weight
idf-most n f = by-test (eqb f 0 || ltb n f) (λ e. rw e (omega arith)) (λ e. rw e (le_trans (sub-le _ _) (sixteenths-most _)))

-- ---- their product

-- no identifier adds more to a score
pub product-most : (f w : ℕ) → f ≤ 32767 → w ≤ 255 → tf_weight f * w ≤ 61200
product-most f w h g = mul-le-mul (tf-most f h) g
