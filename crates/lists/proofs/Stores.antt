-- Runs of stores in parts, place by place, and of what stands there already; and joined lists in parts.
use mathlib.Core.List.{List, [], ◌∷◌, ◌++◌, map, append_assoc}
use mathlib.Core.Path.{◌≡◌, refl, sym, ap, ◌∙◌}
use Prim.Native.Nat.{ℕ, zero, suc, ◌+◌, ◌*◌, ◌<◌, ◌≤◌}
use native.Mathlib.Nat.{add-zero}
use native.Mathlib.Numerals.{add-one}
use native.Mathlib.Omega.{arith}
use lib.ListN.{length, get_or, set, drop, replicate, drop_of_length-le}
use lib.Seq.{sets, set-get_or, drop-cons}
use Rattle.lists.specs.Lists.{joined}

module _ {A : Type 0} where
  -- a run of two parts is two runs
  pub sets-append : (l : List A) (i : ℕ) (xs ys : List A) → sets l i (xs ++ ys) ≡ sets (sets l i xs) (i + length xs) ys
  sets-append l i [] ys = rw (add-zero i)
  sets-append l i (x ∷ xs) ys =
      let e : suc i + length xs ≡ i + suc (length xs) = omega arith in
      sets-append (set l i x) (suc i) xs ys ∙ ap (λ (k : ℕ). sets (sets (set l i x) (suc i) xs) k ys) e

  -- storing what stands there changes nothing
  pub sets_same : (a d : A) (n : ℕ) (l : List A) (i : ℕ) → ((j : ℕ) → i ≤ j → j < i + n → get_or l j d ≡ a) → sets l i (replicate n a) ≡ l
  sets_same a d zero l i h = refl
  sets_same a d (suc n) l i h =
      let e : set l i a ≡ l = ap (λ (x : A). set l i x) (sym (h i (omega arith) (omega arith))) ∙ set-get_or l i d in
      ap (λ (r : List A). sets r (suc i) (replicate n a)) e ∙ sets_same a d n l (suc i) (λ j p q. h j (omega arith) (omega arith))

  -- one turn of a loop that stores a list from its place j on
  pub sets-turn : (l : List A) (i : ℕ) (vs : List A) (j : ℕ) (d : A) → j < length vs → sets l i (drop j vs) ≡ sets (set l i (get_or vs j d)) (i + 1) (drop (j + 1) vs)
  sets-turn l i vs j d h = rw (add-one i, add-one j, drop-cons vs j d h)

  -- and its end
  pub sets_end : (l : List A) (i : ℕ) (vs : List A) (j : ℕ) → length vs ≤ j → sets l i (drop j vs) ≡ l
  sets_end l i vs j h = rw (drop_of_length-le vs {i = j} h)

-- the lists of two parts, joined
pub joined-append : {A B : Type 0} (f : A → List B) (l m : List A) → joined (map f (l ++ m)) ≡ joined (map f l) ++ joined (map f m)
joined-append f [] m = refl
joined-append f (x ∷ l) m = ap (λ r. f x ++ r) (joined-append f l m) ∙ sym (append_assoc (f x) (joined (map f l)) (joined (map f m)))

-- lists of n elements each, stored one after another from place k on
module _ {A : Type 0} (f : A → List ℕ) (n k : ℕ) where
  -- storing from word k on the parts of l is, after i of them, storing those that are left
  abbrev pub Parts : List ℕ → List A → List ℕ → ℕ → Type 0
  Parts W₀ l W i = sets W₀ k (joined (map f l)) ≡ sets W (k + n * i) (joined (map f (drop i l)))

  -- one part more
  pub parts-turn : (W : List ℕ) (l : List A) (i : ℕ) (d : A) → i < length l → length (f (get_or l i d)) ≡ n
      → sets W (k + n * i) (joined (map f (drop i l))) ≡ sets (sets W (k + n * i) (f (get_or l i d))) (k + n * (i + 1)) (joined (map f (drop (i + 1) l)))
  parts-turn W l i d h e =
      let more : k + n * i + length (f (get_or l i d)) ≡ k + n * (i + 1) = omega arith in
      rw (add-one i, drop-cons l i d h)
      (sets-append W (k + n * i) (f (get_or l i d)) (joined (map f (drop (suc i) l)))
      ∙ rw (more, add-one i))

  -- none is left
  pub parts-end : (W : List ℕ) (l : List A) (i : ℕ) → length l ≤ i → sets W (k + n * i) (joined (map f (drop i l))) ≡ W
  parts-end W l i h = rw (drop_of_length-le l h)
