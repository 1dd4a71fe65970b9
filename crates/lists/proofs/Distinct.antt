-- A list without repetition: each number stands in one place.
use mathlib.Core.Bool.{true, not}
use mathlib.Core.List.{List, [], ◌∷◌}
use mathlib.Core.Path.{◌≡◌, refl, sym, ap}
use Prim.Native.Nat.{ℕ, zero, suc, ◌<◌}
use native.Mathlib.Omega.{arith}
use lib.Dec.{eqb}
use lib.ListN.{length, get_or}
use borrow.Author.Tests.{eqb-false, not-true}
use Rattle.lists.specs.Lists.{elem, different}
use Rattle.lists.proofs.Bools.{and_left, and_right}
use Rattle.lists.proofs.Same.{any_at}

-- the first number stands nowhere else
first-once : (n : ℕ) (l : List ℕ) (i : ℕ) → different (n ∷ l) ≡ true → i < length l → n ≡ get_or l i 0 → ⊥
first-once n l i d h e =
    let m = not-true (elem n l) (and_left (not (elem n l)) (different l) d) in
    eqb-false (get_or l i 0) n (any_at (λ m. eqb m n) l i 0 m h) (sym e)

-- places that hold the same number are the same
pub different-at : (l : List ℕ) (i j : ℕ) → different l ≡ true → i < length l → j < length l → get_or l i 0 ≡ get_or l j 0 → i ≡ j
different-at [] i j d a b e = absurd (omega arith)
different-at (n ∷ l) zero zero d a b e = refl
different-at (n ∷ l) zero (suc j) d a b e = absurd (first-once n l j d (omega arith) e)
different-at (n ∷ l) (suc i) zero d a b e = absurd (first-once n l i d (omega arith) (sym e))
different-at (n ∷ l) (suc i) (suc j) d a b e =
    ap suc (different-at l i j (and_right (not (elem n l)) (different l) d) (omega arith) (omega arith) e)
