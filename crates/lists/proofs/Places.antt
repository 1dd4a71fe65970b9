-- An array of which the first places are used and the others hold d: one place more, one less, one changed.
use mathlib.Core.Bool.{Bool, true, cond}
use mathlib.Core.List.{List, [], ◌∷◌, ◌++◌, append_assoc, Memᴰ}
use mathlib.Core.Path.{◌≡◌, refl, ap, ◌∙◌}
use Prim.Native.Nat.{ℕ, zero, suc, ◌+◌, ◌-◌, ◌<◌, ◌≤◌}
use native.Mathlib.Omega.{arith}
use lib.ListN.{length, get_or, take, drop, set, replicate, length-append}
use lib.Seq.{take-append-le, take-append_seam, drop-append_seam}
use Rattle.lists.specs.Lists.{keep, any, every}
use Rattle.lists.proofs.Bools.{by-test, and_left, and_right, and_both, or_right}
use Rattle.lists.proofs.Tests.{keep_all}
use Rattle.lists.proofs.Shifts.{raised, lowered, raised-done, lowered-done}

module _ {A : Type 0} where
  -- ---- lengths and tests

  -- one element more
  pub length-insert : (k : ℕ) (a : A) (l : List A) → length (take k l ++ a ∷ drop k l) ≡ suc (length l)
  length-insert zero a l = refl
  length-insert (suc k) a [] = refl
  length-insert (suc k) a (x ∷ l) = ap suc (length-insert k a l)

  -- one element less
  pub length_without : (k : ℕ) (l : List A) → k < length l → suc (length (take k l ++ drop (suc k) l)) ≡ length l
  length_without k [] h = absurd (omega arith)
  length_without zero (x ∷ l) h = refl
  length_without (suc k) (x ∷ l) h = ap suc (length_without k l (omega arith))

  -- a place whose element passes a test
  pub any_at : (t : A → Bool) (l : List A) (d : A) (i : ℕ) → i < length l → t (get_or l i d) ≡ true → any t l ≡ true
  any_at t [] d i h e = absurd (omega arith)
  any_at t (x ∷ l) d zero h e = rw e
  any_at t (x ∷ l) d (suc i) h e = or_right (t x) _ (any_at t l d i (omega arith) e)

  -- the element of a place is in the list
  pub mem-at : (l : List A) (d : A) (i : ℕ) → i < length l → Memᴰ (get_or l i d) l
  mem-at [] d i h = absurd (omega arith)
  mem-at (x ∷ l) d zero h = Memᴰ.head refl
  mem-at (x ∷ l) d (suc i) h = Memᴰ.tail (mem-at l d i (omega arith))

  -- one more that passes
  pub every-insert : (t : A → Bool) (k : ℕ) (a : A) (l : List A) → t a ≡ true → every t l ≡ true → every t (take k l ++ a ∷ drop k l) ≡ true
  every-insert t zero a l f e = and_both (t a) _ f e
  every-insert t (suc k) a [] f e = and_both (t a) _ f refl
  every-insert t (suc k) a (x ∷ l) f e =
      and_both (t x) _ (and_left (t x) _ e) (every-insert t k a l f (and_right (t x) _ e))

  -- of a list that passes, one place changed: it stays where it passes, and goes where not
  pub keep-set : (t : A → Bool) (k : ℕ) (a : A) (l : List A) → k < length l → every t l ≡ true → keep t (set l k a) ≡ cond (t a) (set l k a) (take k l ++ drop (suc k) l)
  keep-set t k a [] h e = absurd (omega arith)
  keep-set t zero a (x ∷ l) h e = rw (keep_all t l (and_right (t x) _ e))
  keep-set t (suc k) a (x ∷ l) h e =
      let r = keep-set t k a l (omega arith) (and_right (t x) _ e) in
      by-test (t a) (λ y. rw (and_left (t x) _ e, r, y)) (λ n. rw (and_left (t x) _ e, r, n))

  -- ---- the array of n places

  -- past a list and one element
  pub past : (l r : List A) (a : A) → drop (suc (length l)) (l ++ a ∷ r) ≡ r
  past [] r a = refl
  past (x ∷ l) r a = past l r a

  module _ (n : ℕ) (d : A) (l : List A) (k : ℕ) where
    -- the rest moved up from place k, and a put there
    pub filled-insert : (a : A) → k ≤ length l → length l < n → set (raised (length l) k (l ++ replicate (n - length l) d)) k a ≡ (take k l ++ a ∷ drop k l) ++ replicate (n - length (take k l ++ a ∷ drop k l)) d
    filled-insert a h f =
        let z = n - suc (length l) in
        let e : n - length l ≡ suc z = omega arith in
        let g : length l < length (l ++ replicate (suc z) d) = rw length-append (omega arith) in
        rw (e, length-insert k a l, append_assoc (take k l) (a ∷ drop k l) (replicate z d))
        (raised-done (length l) k (l ++ replicate (suc z) d) a h g
        ∙ rw (take-append-le k l (replicate (suc z) d) h, take-append_seam l (replicate (suc z) d), past l (replicate z d) d))

    -- the rest moved down over place k, and the place left over cleared
    pub filled-without : k < length l → length l ≤ n → set (lowered k (length l - 1) (l ++ replicate (n - length l) d)) (length l - 1) d ≡ (take k l ++ drop (suc k) l) ++ replicate (n - length (take k l ++ drop (suc k) l)) d
    filled-without h f =
        let r = replicate (n - length l) d in
        let s : suc (length l - 1) ≡ length l = omega arith in
        let g : length l - 1 < length (l ++ r) = rw length-append (omega arith) in
        let e : n - length (take k l ++ drop (suc k) l) ≡ suc (n - length l) = omega (arith, length_without k l h) in
        rw (e, append_assoc (take k l) (drop (suc k) l) (d ∷ r))
        (lowered-done k (length l - 1) (l ++ r) d (omega arith) g
        ∙ rw (s, take-append-le k l r (omega arith), take-append_seam l r, drop-append_seam l r))
