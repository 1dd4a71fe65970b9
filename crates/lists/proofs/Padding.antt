-- A list kept in the first places of an array, with the same value in all others.
use mathlib.Core.Bool.{Bool, true}
use mathlib.Core.List.{List, [], ◌∷◌, ◌++◌, append_assoc}
use mathlib.Core.Path.{◌≡◌, refl, sym, ap, ◌∙◌}
use Prim.Native.Nat.{ℕ, zero, suc, ◌+◌, ◌-◌, ◌<◌, ◌≤◌}
use native.Mathlib.Nat.{sub-zero, zero-sub, suc-sub-suc}
use native.Mathlib.Numerals.{add-one}
use native.Mathlib.Omega.{arith}
use lib.ListN.{length, get_or, take, drop, set, replicate, length-append, length-drop, length-replicate, length-set, take-append-drop, replicate-append-replicate}
use lib.Seq.{take-append-le, length-take-le, take-suc-set, drop-set-lt, drop-drop, set_at, set-append_left, paste, take_at, drop_at, drop-append-le}
use borrow.Rule.Slice.PartMut.{put_mid}
use Rattle.lists.specs.Lists.{every}
use Rattle.lists.proofs.Bools.{and_left, and_right}

module _ {A : Type 0} (d : A) where
  -- reading past the list gives the value that follows it
  pub get_or-padded : (m : ℕ) (l : List A) (k : ℕ) → get_or (l ++ replicate m d) k d ≡ get_or l k d
  get_or-padded zero [] k = refl
  get_or-padded (suc m) [] zero = refl
  get_or-padded (suc m) [] (suc k) = get_or-padded m [] k
  get_or-padded m (x ∷ l) zero = refl
  get_or-padded m (x ∷ l) (suc k) = get_or-padded m l k

  -- it fills the array
  pub length-padded : (n : ℕ) (l : List A) → length l ≤ n → length (l ++ replicate (n - length l) d) ≡ n
  length-padded n l h = rw (length-append, length-replicate) (omega arith)

  -- one more after the list
  pub padded-add : (n : ℕ) (l all : List A) (k : ℕ) (x : A) → all ≡ l ++ replicate (n - length l) d → k ≡ length l → length l < n
      → set all k x ≡ (l ++ (x ∷ [])) ++ replicate (n - length (l ++ (x ∷ []))) d
  padded-add n l all k x is at h =
      let e : n - length l ≡ suc (n - suc (length l)) = omega arith in
      let f : n - length (l ++ (x ∷ [])) ≡ n - suc (length l) = rw (length-append l (x ∷ [])) (omega arith) in
      rw (is, at, e, f, append_assoc) (set_at l d (replicate (n - suc (length l)) d) x (length l) refl)

  -- another in the list
  pub padded-set : (n : ℕ) (l all : List A) (k : ℕ) (x : A) → all ≡ l ++ replicate (n - length l) d → k < length l
      → set all k x ≡ set l k x ++ replicate (n - length (set l k x)) d
  padded-set n l all k x is h = rw (is, length-set l k x) (set-append_left l (replicate (n - length l) d) k x h)

  -- a list of nothing but that value
  pub all_same : (t : A → Bool) → ((x : A) → t x ≡ true → x ≡ d) → (l : List A) → every t l ≡ true → l ≡ replicate (length l) d
  all_same t is [] e = refl
  all_same t is (x ∷ l) e = rw (is x (and_left (t x) _ e), ← all_same t is l (and_right (t x) _ e))

  -- an array whose places from n on have that value is its first n places, padded
  pub padded-form : (t : A → Bool) → ((x : A) → t x ≡ true → x ≡ d) → (k n : ℕ) (all : List A) → length all ≡ k → n ≤ k → every t (drop n all) ≡ true
      → all ≡ take n all ++ replicate (k - length (take n all)) d
  padded-form t is k n all len h e =
      let a : length (take n all) ≡ n = length-take-le n all (omega arith) in
      let b : length (drop n all) ≡ k - n = rw (length-drop, len) in
      sym (take-append-drop n all) ∙ ap (λ (r : List A). take n all ++ r) (all_same t is (drop n all) e) ∙ rw (b, a)

module _ {A : Type 0} where
  -- any place of a list of one value
  pub get_or-same : (n k : ℕ) (d : A) → get_or (replicate n d) k d ≡ d
  get_or-same n k d = get_or-padded d n [] k

  -- the rest of a list of one value
  pub drop-replicate : (k n : ℕ) (d : A) → drop k (replicate n d) ≡ replicate (n - k) d
  drop-replicate zero n d = rw (sub-zero n)
  drop-replicate (suc k) zero d = rw (zero-sub (suc k))
  drop-replicate (suc k) (suc n) d = rw (suc-sub-suc n k) (drop-replicate k n d)

-- the list without `count` of it from place `at` on
abbrev pub without : {A : Type 0} → ℕ → ℕ → List A → List A
without at count l = take at l ++ drop count (drop at l)

-- a run of the list replaced by one: set at its first place, and the others gone
pub without-rest : {A : Type 0} (l : List A) (at count : ℕ) (x : A) → at + count ≤ length l → 1 ≤ count
    → without (at + 1) (count - 1) (set l at x) ≡ take at l ++ (x ∷ drop count (drop at l))
without-rest l at count x within some =
    let e : suc at + (count - 1) ≡ at + count = omega arith in
    rw (add-one, take-suc-set l at x (omega arith), drop-set-lt (suc at) l at x (omega arith), drop-drop (count - 1) (suc at) l, drop-drop count at l, e, append_assoc)

module _ {A : Type 0} (d : A) (n : ℕ) (l : List A) (at count : ℕ) (within : at + count ≤ length l) (fits : length l ≤ n) where
  -- how many are left
  pub length_without : length (without at count l) ≡ length l - count
  length_without = rw (length-append, length-take-le at l (omega arith), length-drop, length-drop) (omega arith)

  -- what follows the run moved down over it, in an array that pads the list
  moved : (all : List A) (used : ℕ) → all ≡ l ++ replicate (n - length l) d → used ≡ length l
      → paste all at (drop (at + count) all) (used - (at + count)) ≡ without at count l ++ drop (used - count) all
  moved all used is at-end =
      let a : take at all ≡ take at l = rw is (take-append-le at l _ (omega arith)) in
      let b : take (used - (at + count)) (drop (at + count) all) ≡ drop count (drop at l) =
      rw (is, at-end, drop-append-le (at + count) l (replicate (n - length l) d) (omega arith), drop-drop count at l) (take_at (drop (at + count) l) (replicate (n - length l) d) _ (omega (arith, length-drop (at + count) l))) in
      let e : at + (used - (at + count)) ≡ used - count = omega arith in
      rw (a, b, e, append_assoc)

  -- and d put over what is left behind
  pub cut_padded : (all by : List A) (used : ℕ) → all ≡ l ++ replicate (n - length l) d → used ≡ length l
      → by ≡ paste all at (drop (at + count) all) (used - (at + count))
      → put_mid (used - count) (used - (used - count)) by (replicate (length (take (used - (used - count)) (drop (used - count) by))) d)
      ≡ without at count l ++ replicate (n - length (without at count l)) d
  cut_padded all by used is at-end copied =
      let g = length_without in
      let long : length all ≡ n = rw is (length-padded d n l fits) in
      let f : by ≡ without at count l ++ drop (used - count) all = copied ∙ moved all used is at-end in
      let front : take (used - count) by ≡ without at count l = rw f (take_at (without at count l) (drop (used - count) all) (used - count) (omega arith)) in
      let rest : drop (used - count) by ≡ drop (used - count) all = rw f (drop_at (without at count l) (drop (used - count) all) (used - count) (omega arith)) in
      let past : drop (used - (used - count)) (drop (used - count) all) ≡ replicate (n - length l) d =
      drop-drop (used - (used - count)) (used - count) all ∙ rw is (drop_at l (replicate (n - length l) d) _ (omega arith)) in
      let m : length (take (used - (used - count)) (drop (used - count) all)) ≡ count = length-take-le _ (drop (used - count) all) (omega (arith, length-drop (used - count) all)) ∙ omega arith in
      let z : count + (n - length l) ≡ n - length (without at count l) = omega arith in
      rw (front, rest, past, m, replicate-append-replicate count (n - length l) d, z)
