-- Parts of lists, places in use of an array, and tests that can go.
use mathlib.Core.Bool.{Bool, true, false, ◌&&◌, and-false}
use mathlib.Core.List.{List, [], ◌∷◌, ◌++◌}
use mathlib.Core.Path.{◌≡◌, refl, ap, ◌∙◌}
use Prim.Native.Nat.{ℕ, zero, suc, ◌+◌, ◌-◌, ◌≤◌}
use native.Mathlib.Nat.{zero-add, suc-add}
use native.Mathlib.Omega.{arith}
use lib.ListN.{length, get_or, take, drop, length-drop}
use lib.Seq.{drop-cons, take-add, drop-drop, take-nil, take_all}

-- a test that follows from others beside it can go
pub and-absorb : (a b c d : Bool) → (a ≡ true → c ≡ true → b ≡ true) → ((a && b) && (c && d)) ≡ (a && (c && d))
and-absorb false b c d h = refl
and-absorb true b true d h = rw (h refl refl)
and-absorb true b false d h = and-false b

module _ {A : Type 0} where
  -- three elements from a place on
  pub drop-three : (l : List A) (i : ℕ) (d : A) → i + 3 ≤ length l → drop i l ≡ get_or l i d ∷ get_or l (1 + i) d ∷ get_or l (2 + i) d ∷ drop (3 + i) l
  drop-three l i d h =
      let a : suc i ≡ 1 + i = omega arith in
      let b : suc (1 + i) ≡ 2 + i = omega arith in
      let c : suc (2 + i) ≡ 3 + i = omega arith in
      drop-cons l i d (omega arith)
      ∙ ap (λ (r : List A). get_or l i d ∷ r)
      (ap (λ (k : ℕ). drop k l) a ∙ drop-cons l (1 + i) d (omega arith)
      ∙ ap (λ (r : List A). get_or l (1 + i) d ∷ r)
      (ap (λ (k : ℕ). drop k l) b ∙ drop-cons l (2 + i) d (omega arith) ∙ ap (λ (k : ℕ). get_or l (2 + i) d ∷ drop k l) c))

  -- a part from a place on, cut first
  pub take-drop : (a n : ℕ) (l : List A) → take n (drop a l) ≡ drop a (take (a + n) l)
  take-drop zero n l = rw (zero-add n)
  take-drop (suc a) n [] = rw (suc-add a n, take-nil n)
  take-drop (suc a) n (x ∷ l) = rw (suc-add a n) (take-drop a n l)

  -- all from a place on
  pub take_rest : (n : ℕ) (l : List A) → take (length l - n) (drop n l) ≡ drop n l
  take_rest n l = take_all (length l - n) (drop n l) (omega (arith, length-drop n l))

  -- a part in two
  pub part-add : (l : List A) (i m n : ℕ) → take (m + n) (drop i l) ≡ take m (drop i l) ++ take n (drop (i + m) l)
  part-add l i m n = take-add m n (drop i l) ∙ ap (λ (r : List A). take m (drop i l) ++ take n r) (drop-drop m i l)
