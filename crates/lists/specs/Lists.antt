-- Functions on lists: some of the library's under short names, and those that it lacks.

-- The library's: the elements that pass a test, in order; does some element pass it; does every one.
pub use Rattle.std.specs.List.{filter as keep, list_any as any, list_all as every}
use Rattle.std.specs.Prelude.{Bool, true, false, ◌&&◌, not, List, [], ◌∷◌, ◌++◌, ℕ, zero, suc, ◌+◌, eqb}

module _ {A : Type 0} where
  -- has the list no element
  abbrev pub empty : List A → Bool
  empty [] = true
  empty (x ∷ xs) = false

  -- f of the elements, added up
  abbrev pub total_by : (A → ℕ) → List A → ℕ
  total_by f [] = 0
  total_by f (x ∷ xs) = f x + total_by f xs

  -- the lists one after another
  abbrev pub joined : List (List A) → List A
  joined [] = []
  joined (l ∷ ls) = l ++ joined ls

-- is n in the list
abbrev pub elem : ℕ → List ℕ → Bool
elem n l = any (λ m. eqb m n) l

-- is no number in the list twice
abbrev pub different : List ℕ → Bool
different [] = true
different (n ∷ l) = not (elem n l) && different l

-- n, n - 1, .., 1
unfoldable pub down : ℕ → List ℕ
down zero = []
down (suc n) = suc n ∷ down n

-- n - 1, .., 0
unfoldable pub below : ℕ → List ℕ
below zero = []
below (suc n) = n ∷ below n

-- n, n + 1, .., as many as told
unfoldable pub rising : ℕ → ℕ → List ℕ
rising n zero = []
rising n (suc count) = n ∷ rising (suc n) count

-- 0, 1, .., n - 1
abbrev pub up_to : ℕ → List ℕ
up_to n = rising 0 n

-- are two lists of numbers equal, over their full length
abbrev pub same : List ℕ → List ℕ → Bool
same [] [] = true
same [] (y ∷ ys) = false
same (x ∷ xs) [] = false
same (x ∷ xs) (y ∷ ys) = eqb x y && same xs ys
