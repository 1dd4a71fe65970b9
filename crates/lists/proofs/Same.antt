-- Equality of lists of numbers as a test, tests of parts of a list, and runs of stores.
use mathlib.Core.Bool.{Bool, true, false, ◌&&◌, and_assoc}
use mathlib.Core.List.{List, [], ◌∷◌, ◌++◌}
use mathlib.Core.Path.{◌≡◌, refl, sym, ap, ap₂, ◌∙◌}
use Prim.Native.Nat.{ℕ, zero, suc, ◌+◌, ◌<◌, ◌≤◌}
use native.Mathlib.Nat.{add-suc}
use native.Mathlib.Omega.{arith}
use borrow.Author.Tests.{eqb-true, eq-eqb}
use lib.Dec.{eqb}
use lib.ListN.{length, get_or, take, drop, set}
use lib.Seq.{sets, drop-cons, take-set-le, drop-set-add}
use Rattle.lists.specs.Lists.{any, every, same}
use Rattle.lists.proofs.Bools.{by-test, and_left, and_right, and_both, or-none}

-- The test of equality ----------------------------------------------------------------------------------------------

-- a list is the same as itself
pub same_refl : (a : List ℕ) → same a a ≡ true
same_refl [] = refl
same_refl (x ∷ a) = rw (eq-eqb x x refl, same_refl a)

-- lists that the test finds the same are equal
pub same_true : (a b : List ℕ) → same a b ≡ true → a ≡ b
same_true [] [] e = refl
same_true [] (y ∷ b) e = cc
same_true (x ∷ a) [] e = cc
same_true (x ∷ a) (y ∷ b) e = ap₂ ◌∷◌ (eqb-true x y (and_left (eqb x y) _ e)) (same_true a b (and_right (eqb x y) _ e))

-- and equal lists are found the same
pub eq-same : (a b : List ℕ) → a ≡ b → same a b ≡ true
eq-same a b e = rw e (same_refl b)

-- lists that it tells apart differ
pub same_false : (a b : List ℕ) → same a b ≡ false → a ≡ b → ⊥
same_false a b e p =
    let q : same a b ≡ true = eq-same a b p in
    let z : ◌≡◌ {A = ℕ} 0 1 = cc in
    omega arith

-- and lists that differ are told apart
pub ne_same : (a b : List ℕ) → (a ≡ b → ⊥) → same a b ≡ false
ne_same a b n = by-test (same a b) (λ e. absurd (n (same_true a b e))) (λ e. e)

-- the test does not mind the order
pub same-swap : (a b : List ℕ) → same a b ≡ same b a
same-swap a b =
    by-test
    (same a b)
    (λ e. e ∙ sym (eq-same b a (sym (same_true a b e))))
    (λ e. e ∙ sym (ne_same b a (λ p. same_false a b e (sym p))))

-- lists of unequal length are not the same
pub same_length : (a b : List ℕ) → (length a ≡ length b → ⊥) → same a b ≡ false
same_length a b n = ne_same a b (λ e. n (ap length e))

-- lists in two parts
pub same-append : (a b c d : List ℕ) → length a ≡ length c → same (a ++ b) (c ++ d) ≡ (same a c && same b d)
same-append [] b [] d e = refl
same-append [] b (y ∷ c) d e = absurd (omega arith)
same-append (x ∷ a) b [] d e = absurd (omega arith)
same-append (x ∷ a) b (y ∷ c) d e = ap (λ (t : Bool). eqb x y && t) (same-append a b c d (omega arith)) ∙ sym (and_assoc (eqb x y) (same a c) (same b d))

-- Tests of parts ----------------------------------------------------------------------------------------------------

module _ {A : Type 0} (t : A → Bool) where
  -- where none passes, the one at a place does not
  pub any_at : (l : List A) (i : ℕ) (d : A) → any t l ≡ false → i < length l → t (get_or l i d) ≡ false
  any_at [] i d e h = absurd (omega arith)
  any_at (x ∷ l) zero d e h = (or-none (t x) _ e).0
  any_at (x ∷ l) (suc i) d e h = any_at l i d (or-none (t x) _ e).1 (omega arith)

  -- the elements from place i on
  pub every-step : (l : List A) (i : ℕ) (d : A) → i < length l → every t (drop i l) ≡ (t (get_or l i d) && every t (drop (suc i) l))
  every-step l i d h = rw (drop-cons l i d h)

  -- one element put in for another
  pub every_set : (l : List A) (i : ℕ) (x : A) → every t l ≡ true → t x ≡ true → every t (set l i x) ≡ true
  every_set [] i x e p = refl
  every_set (y ∷ l) zero x e p = and_both (t x) _ p (and_right (t y) _ e)
  every_set (y ∷ l) (suc i) x e p = and_both (t y) _ (and_left (t y) _ e) (every_set l i x (and_right (t y) _ e) p)

-- Runs of stores ----------------------------------------------------------------------------------------------------

module _ {A : Type 0} where
  -- a run of stores leaves what stands before it
  pub take-sets-le : (n : ℕ) (l : List A) (i : ℕ) (vs : List A) → n ≤ i → take n (sets l i vs) ≡ take n l
  take-sets-le n l i [] h = refl
  take-sets-le n l i (v ∷ vs) h = take-sets-le n (set l i v) (suc i) vs (omega arith) ∙ take-set-le n l i v h

  -- past its first n places it is a run of stores on the rest
  pub drop-sets-add : (n : ℕ) (l : List A) (i : ℕ) (vs : List A) → drop n (sets l (n + i) vs) ≡ sets (drop n l) i vs
  drop-sets-add n l i [] = refl
  drop-sets-add n l i (v ∷ vs) =
      rw (← add-suc n i) (drop-sets-add n (set l (n + i) v) (suc i) vs) ∙ ap (λ (k : List A). sets k (suc i) vs) (drop-set-add n l i v)

  -- a list put over the start of another, up to a place past it
  pub take-over : (n : ℕ) (vs l : List A) → length vs ≤ n → length vs ≤ length l → take n (vs ++ drop (length vs) l) ≡ vs ++ drop (length vs) (take n l)
  take-over n [] l h k = refl
  take-over zero (v ∷ vs) l h k = absurd (omega arith)
  take-over (suc n) (v ∷ vs) [] h k = absurd (omega arith)
  take-over (suc n) (v ∷ vs) (x ∷ l) h k = ap (λ (m : List A). v ∷ m) (take-over n vs l (omega arith) (omega arith))

  -- and from there on
  pub drop-over : (n : ℕ) (vs l : List A) → length vs ≤ n → length vs ≤ length l → drop n (vs ++ drop (length vs) l) ≡ drop n l
  drop-over n [] l h k = refl
  drop-over zero (v ∷ vs) l h k = absurd (omega arith)
  drop-over (suc n) (v ∷ vs) [] h k = absurd (omega arith)
  drop-over (suc n) (v ∷ vs) (x ∷ l) h k = drop-over n vs l (omega arith) (omega arith)
