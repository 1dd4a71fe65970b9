-- The largest number that passes a test.
use Rattle.lists.proofs.Prelude.{Bool, true, false, ◌≡◌, sym, ◌∙◌, ℕ, zero, suc, ◌+◌, ◌≤◌, add-one, arith, leb, leb-true, leb-false, by-test, true≢false}
use Rattle.weights.specs.Weights.{largest}

module _ (t : ℕ → Bool) where
  -- it is one of the numbers that were tried
  pub largest-le : (n : ℕ) → largest t n ≤ n
  unfolding largest
  largest-le zero = omega arith
  largest-le (suc n) = let h = largest-le n in by-test (t (suc n)) (λ e. rw e (omega arith)) (λ e. rw e (omega arith))

  -- where 0 passes and n + 1 does not, the largest up to n passes and the number after it does not
  pub largest-top : t 0 ≡ true → (n : ℕ) → t (n + 1) ≡ false → (t (largest t n) ≡ true) × (t (largest t n + 1) ≡ false)
  unfolding largest
  largest-top z zero o = (z, o)
  largest-top z (suc n) o =
      by-test (t (suc n)) (λ e. rw e (e, o)) (λ e. rw e (largest-top z n (rw add-one e)))

  -- a test that passes whatever is below a number that passes
  module _ (falls : (i j : ℕ) → i ≤ j → t j ≡ true → t i ≡ true) where
    not-past : (a b : ℕ) → t (a + 1) ≡ false → t b ≡ true → b ≤ a
    not-past a b o e =
        by-test
        (leb b a)
        (λ l. leb-true b a l)
        (λ l. let h = leb-false b a l in absurd (true≢false (sym (falls (a + 1) b (omega arith) e) ∙ o)))

    -- a number that passes, and the number after it not, is the largest
    pub largest-only : (n a : ℕ) → t (n + 1) ≡ false → t a ≡ true → t (a + 1) ≡ false → largest t n ≡ a
    largest-only n a out e o =
        let top = largest-top (falls 0 a (omega arith) e) n out in
        omega (arith, not-past a (largest t n) o top.0, not-past (largest t n) a top.1 e)

-- a test that passes more numbers has no smaller largest
pub largest-more : (t u : ℕ → Bool) → ((a : ℕ) → t a ≡ true → u a ≡ true) → (n : ℕ) → largest t n ≤ largest u n
unfolding largest
largest-more t u h zero = omega arith
largest-more t u h (suc n) =
    let k = largest-more t u h n in
    let l = largest-le t n in
    by-test
    (t (suc n))
    (λ e. rw (e, h (suc n) e) (omega arith))
    (λ e. by-test (u (suc n)) (λ d. rw (e, d) (omega arith)) (λ d. rw (e, d) k))
