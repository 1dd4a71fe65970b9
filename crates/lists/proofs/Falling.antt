-- Numbers by falling value: what a test keeps of all numbers, it keeps of those that matter.
use mathlib.Core.Bool.{Bool, false, ◌||◌, cond, or_self_left}
use mathlib.Core.List.{List, [], ◌∷◌}
use mathlib.Core.Path.{◌≡◌, refl, sym}
use Prim.Native.Nat.{ℕ, zero, suc, ◌<◌, ◌≤◌}
use native.Mathlib.Omega.{arith}
use lib.Dec.{ltb, eqb}
use borrow.Author.Tests.{ltb-true, ltb-false, eqb-true, eqb-false, ne_eqb}
use Rattle.lists.specs.Lists.{keep, elem, down}
use Rattle.lists.proofs.Bools.{by-test, or_swap}

-- each number is below the one before and at least 1, the first below m
pub data Falling : ℕ → List ℕ → Type 0 where
  none : {m : ℕ} → Falling m []
  more : {m n : ℕ} {l : List ℕ} → 1 ≤ n → n < m → Falling n l → Falling m (n ∷ l)

-- no number from the bound on is there
pub falling-high : (m k : ℕ) (l : List ℕ) → m ≤ k → Falling m l → elem k l ≡ false
falling-high m k [] h none = refl
falling-high m k (n ∷ l) h (more a b f) = rw (ne_eqb n k (λ q. omega arith)) (falling-high n k l (omega arith) f)

falling-wider : (m k : ℕ) (l : List ℕ) → m ≤ k → Falling m l → Falling k l
falling-wider m k [] h none = none
falling-wider m k (n ∷ l) h (more a b f) = more {m = k} a (omega arith) f

-- where a test fails of every number outside a falling list, it keeps of 1 to m what it keeps of the list
pub keep-falling : (t : ℕ → Bool) (m : ℕ) (l : List ℕ) → Falling (suc m) l → ((n : ℕ) → 1 ≤ n → n ≤ m → elem n l ≡ false → t n ≡ false) → keep t (down m) ≡ keep t l
unfolding down
keep-falling t zero [] f h = refl
keep-falling t zero (n ∷ l) (more a b f) h = absurd (omega arith)
keep-falling t (suc m) [] f h = rw (h (suc m) (omega arith) (omega arith) refl) (keep-falling t m [] none (λ n a b e. h n a (omega arith) e))
keep-falling t (suc m) (n ∷ l) (more a b f) h =
    by-test (eqb n (suc m))
    (λ y. let q : n ≡ suc m = eqb-true n (suc m) y in
    let r = keep-falling t m l (falling-wider n (suc m) l (omega arith) f) (λ k c d e. h k c (omega arith) (rw (ne_eqb n k (λ z. omega arith)) e)) in
    rw (q, r))
    (λ k. let d : n ≡ suc m → ⊥ = eqb-false n (suc m) k in
    let o = falling-high (suc m) (suc m) (n ∷ l) (omega arith) (more {m = suc m} a (omega arith) f) in
    rw (h (suc m) (omega arith) (omega arith) o) (keep-falling t m (n ∷ l) (more {m = suc m} a (omega arith) f) (λ j c e g. h j c (omega arith) g)))

-- n put into a falling list, unless it is there
abbrev pub insert : ℕ → List ℕ → List ℕ
insert n [] = n ∷ []
insert n (m ∷ l) = cond (ltb m n) (n ∷ m ∷ l) (cond (eqb m n) (m ∷ l) (m ∷ insert n l))

pub insert-falling : (m n : ℕ) (l : List ℕ) → 1 ≤ n → n < m → Falling m l → Falling m (insert n l)
insert-falling m n [] a b none = more a b none
insert-falling m n (k ∷ l) a b (more c d f) =
    by-test (ltb k n) (λ y. rw y (more a b (more c (ltb-true k n y) f)))
    (λ y. by-test (eqb k n) (λ e. rw (y, e) (more c d f))
    (λ e. let g = ltb-false k n y in let z : k ≡ n → ⊥ = eqb-false k n e in rw (y, e) (more c d (insert-falling k n l a (omega arith) f))))

pub elem-insert : (j n : ℕ) (l : List ℕ) → elem j (insert n l) ≡ (eqb n j || elem j l)
elem-insert j n [] = refl
elem-insert j n (k ∷ l) =
    by-test (ltb k n) (λ y. rw y)
    (λ y. by-test (eqb k n)
    (λ e. let q : k ≡ n = eqb-true k n e in rw (y, e, q) (sym (or_self_left (eqb n j) (elem j l))))
    (λ e. rw (y, e, elem-insert j n l) (or_swap (eqb k j) (eqb n j) (elem j l))))
