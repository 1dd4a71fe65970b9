-- An array whose elements move by one place, up or down: by a loop, one a turn, or by one copy.
use mathlib.Core.List.{List, [], ◌∷◌, ◌++◌, append_assoc}
use mathlib.Core.Path.{◌≡◌, refl, ap}
use Prim.Native.Nat.{ℕ, zero, suc, ◌+◌, ◌-◌, ◌<◌, ◌≤◌}
use native.Mathlib.Numerals.{add-one}
use native.Mathlib.Omega.{arith}
use Rattle.std.specs.List.{copy_within}
use Rattle.std.proofs.lemmas.Slice.{between_is}
use lib.ListN.{length, take, drop, set, take-append-drop}

-- places i to n - 1 have moved up by one, over place n; place i is still as it was
unfoldable pub raised : {A : Type 0} → ℕ → ℕ → List A → List A
raised n i l = take (suc i) l ++ (drop i (take n l) ++ drop (suc n) l)

-- places k + 1 to i have moved down by one, over place k; place i is still as it was
unfoldable pub lowered : {A : Type 0} → ℕ → ℕ → List A → List A
lowered k i l = take k l ++ (drop (suc k) (take (suc i) l) ++ drop i l)

module _ {A : Type 0} where
  -- ---- up

  -- at first nothing has moved
  pub raised-none : (n : ℕ) (l : List A) → raised n n l ≡ l
  unfolding raised
  raised-none zero l = take-append-drop 1 l
  raised-none (suc n) [] = refl
  raised-none (suc n) (x ∷ l) = ap {B = List A} (λ r. x ∷ r) (raised-none n l)

  -- the copy makes it too
  pub raised_copied : (n k : ℕ) (l : List A) → k ≤ n → copy_within l k n (k + 1) ≡ raised n k l
  unfolding raised
  raised_copied n k l h =
      let e : suc k + (n - k) ≡ suc n = omega arith in
      rw (add-one, e, between_is l k n) (append_assoc (take (suc k) l) (drop k (take n l)) (drop (suc n) l))

  -- at last the free place is filled
  pub raised-done : (n k : ℕ) (l : List A) (a : A) → k ≤ n → n < length l → set (raised n k l) k a ≡ take k l ++ a ∷ (drop k (take n l) ++ drop (suc n) l)
  unfolding raised
  raised-done n zero [] a h f = absurd (omega arith)
  raised-done n zero (x ∷ l) a h f = refl
  raised-done zero (suc k) l a h f = absurd (omega arith)
  raised-done (suc n) (suc k) [] a h f = absurd (omega arith)
  raised-done (suc n) (suc k) (x ∷ l) a h f = ap {B = List A} (λ r. x ∷ r) (raised-done n k l a (omega arith) (omega arith))

  -- ---- down

  -- the copy makes it
  pub lowered_copied : (k n : ℕ) (l : List A) → k < n → copy_within l (k + 1) n k ≡ lowered k (n - 1) l
  unfolding lowered
  lowered_copied k n l h =
      let e : k + (n - suc k) ≡ n - 1 = omega arith in
      let f : suc (n - 1) ≡ n = omega arith in
      rw (add-one, e, f, between_is l (suc k) n) (append_assoc (take k l) (drop (suc k) (take n l)) (drop (n - 1) l))

  -- at last the place left over is overwritten
  pub lowered-done : (k i : ℕ) (l : List A) (a : A) → k ≤ i → i < length l → set (lowered k i l) i a ≡ take k l ++ (drop (suc k) (take (suc i) l) ++ a ∷ drop (suc i) l)
  unfolding lowered
  lowered-done k i [] a h f = absurd (omega arith)
  lowered-done zero i (x ∷ l) a h f = front i x l (omega arith)
    where
      front : (i : ℕ) (x : A) (l : List A) → i ≤ length l → set (take i l ++ drop i (x ∷ l)) i a ≡ take i l ++ a ∷ drop i l
      front zero x l f = refl
      front (suc i) x [] f = absurd (omega arith)
      front (suc i) x (y ∷ l) f = ap {B = List A} (λ r. y ∷ r) (front i y l (omega arith))
  lowered-done (suc k) zero (x ∷ l) a h f = absurd (omega arith)
  lowered-done (suc k) (suc i) (x ∷ l) a h f = ap {B = List A} (λ r. x ∷ r) (lowered-done k i l a (omega arith) (omega arith))
