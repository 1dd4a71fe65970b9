-- Arrays of which the first n places are used: what a loop over them has done after i turns.
use mathlib.Core.List.{List, [], ◌∷◌, map}
use mathlib.Core.Path.{◌≡◌, refl, sym, ◌∙◌}
use Prim.Native.Nat.{ℕ, zero, suc, ◌<◌, ◌≤◌}
use native.Mathlib.Omega.{arith}
use lib.ListN.{length, get_or, set, length-map}
use Rattle.lists.specs.All.{AllOf}

-- the length of an array of structs, from the form in which owning a struct tells it
pub unmapped : (X Y : Type 0) (f : X → Y) (l : List X) (n : ℕ) → length (map f l) ≡ n → length l ≡ n
unmapped X Y f l n e = sym (length-map l f) ∙ e

-- f done to the first i elements
unfoldable pub first_by : {A : Type 0} → (A → A) → ℕ → List A → List A
first_by f zero l = l
first_by f (suc i) [] = []
first_by f (suc i) (x ∷ l) = f x ∷ first_by f i l

module _ {A : Type 0} (f : A → A) where
  pub first-set : (i : ℕ) (l : List A) (d : A) → i < length l → set (first_by f i l) i (f (get_or l i d)) ≡ first_by f (suc i) l
  unfolding first_by
  first-set zero [] d h = absurd (omega arith)
  first-set zero (x ∷ l) d h = refl
  first-set (suc i) [] d h = absurd (omega arith)
  first-set (suc i) (x ∷ l) d h = rw (first-set i l d (omega arith))

  pub first-all : (i : ℕ) (l : List A) → length l ≤ i → first_by f i l ≡ map f l
  unfolding first_by
  first-all zero [] h = refl
  first-all zero (x ∷ l) h = absurd (omega arith)
  first-all (suc i) [] h = refl
  first-all (suc i) (x ∷ l) h = rw (first-all i l (omega arith))

module _ {C : Type 0} (P : C → Type 0) where
  pub of_at : (d : C) (l : List C) (i : ℕ) → i < length l → AllOf P l → P (get_or l i d)
  unfolding AllOf
  of_at d [] i h g = absurd (omega arith)
  of_at d (c ∷ l) zero h g = g.0
  of_at d (c ∷ l) (suc i) h g = of_at d l i (omega arith) g.1

  pub of_map : (f : C → C) → ((c : C) → P c → P (f c)) → (l : List C) → AllOf P l → AllOf P (map f l)
  unfolding AllOf
  of_map f k [] g = tt
  of_map f k (c ∷ l) g = (k c g.0, of_map f k l g.1)
