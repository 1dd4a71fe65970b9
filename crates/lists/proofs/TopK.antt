-- Insertion by rank into a list that is cut to its first k places: what is cut away never comes back, and the order of insertion does not matter.
use mathlib.Core.Bool.{Bool, true, false, not, cond, true≢false}
use mathlib.Core.List.{List, [], ◌∷◌, ◌++◌, foldr, map, append_assoc}
use mathlib.Core.Path.{◌≡◌, refl, sym, ap, ◌∙◌}
use Prim.Native.Nat.{ℕ, zero, suc, ◌-◌, ◌≤◌, ◌<◌}
use native.Mathlib.Omega.{arith}
use lib.ListN.{length, get_or, take, drop, set, replicate, length-append}
use lib.Seq.{take-take, take-nil, take_all, take-suc, take-append-le, take-append_seam, length-take-le}
use lib.Dec.{eqb}
use borrow.Author.Tests.{eqb-true, eqb-false, not-true}
use Rattle.lists.specs.Lists.{elem, different, down}
use Rattle.lists.proofs.Bools.{by-test, and_left, and_right, and_both, or-none}
use Rattle.lists.proofs.Falling.{Falling, none, more, falling-high}
use Rattle.lists.proofs.Shifts.{raised, raised-done}
use Rattle.lists.proofs.Places.{length-insert, past, filled-insert}

-- put inserts an element before the first that it outranks
pub record Inserts {A : Type 0} (outranks : A → A → Bool) (put : A → List A → List A) : Type 0 where
  pub last : (g : A) → put g [] ≡ g ∷ []
  pub next : (g h : A) (l : List A) → put g (h ∷ l) ≡ cond (outranks g h) (g ∷ h ∷ l) (h ∷ put g l)

-- a rank by which elements of different keys are strictly ordered
pub record Ranks {A : Type 0} (key : A → ℕ) (outranks : A → A → Bool) : Type 0 where
  pub across : (g h x : A) → outranks g h ≡ true → outranks h x ≡ true → outranks g x ≡ true
  pub either : (g h : A) → (key g ≡ key h → ⊥) → outranks h g ≡ not (outranks g h)

module _ {A : Type 0} (put : A → List A → List A) where
  -- the elements inserted from first to last, each into the list cut at k
  abbrev pub top_after : ℕ → List A → List A → List A
  top_after k l [] = l
  top_after k l (g ∷ gs) = top_after k (take k (put g l)) gs

module _ {A : Type 0} {outranks : A → A → Bool} {put : A → List A → List A} (is : Inserts outranks put) where
  -- what is cut away before an insertion is cut away after it
  pub take_put : (k : ℕ) (g : A) (l : List A) → take k (put g l) ≡ take k (put g (take k l))
  take_put zero g l = refl
  take_put (suc k) g [] = refl
  take_put (suc k) g (h ∷ l) =
      by-test (outranks g h)
      (λ y. rw (is.next g h l, is.next g h (take k l), y) (ap {B = List A} (λ r. g ∷ r) (behind k)))
      (λ n. rw (is.next g h l, is.next g h (take k l), n) (ap {B = List A} (λ r. h ∷ r) (take_put k g l)))
    where
      behind : (k : ℕ) → take k (h ∷ l) ≡ take k (h ∷ take k l)
      behind zero = refl
      behind (suc j) = ap {B = List A} (λ r. h ∷ r) (sym (take-take j (suc j) l (omega arith)))

  module _ {key : A → ℕ} (ranks : Ranks key outranks) where
    ahead : (g h : A) (x : A) (l : List A) → (key g ≡ key h → ⊥) → outranks g x ≡ true → outranks h x ≡ false → put g (put h (x ∷ l)) ≡ put h (put g (x ∷ l))
    ahead g h x l d y n =
        let m : outranks h g ≡ false = by-test (outranks h g) (λ z. absurd (true≢false (sym (ranks.across h g x z y) ∙ n))) (λ z. z) in
        rw (is.next h x l, n, is.next g x (put h l), is.next g x l, y, is.next h g (x ∷ l), m, is.next h x l, n)

    -- the order of two insertions does not matter
    pub put-swap : (g h : A) → (key g ≡ key h → ⊥) → (l : List A) → put g (put h l) ≡ put h (put g l)
    put-swap g h d [] =
        by-test (outranks g h)
        (λ y. rw (is.last h, is.last g, is.next g h [], is.next h g [], ranks.either g h d, y, is.last h))
        (λ n. rw (is.last h, is.last g, is.next g h [], is.next h g [], ranks.either g h d, n, is.last g))
    put-swap g h d (x ∷ l) =
        by-test (outranks g x)
        (λ a. by-test (outranks h x)
        (λ b. by-test (outranks g h)
        (λ y. rw (is.next h x l, b, is.next g h (x ∷ l), y, is.next g x l, a, is.next h g (x ∷ l), ranks.either g h d, y, is.next h x l, b))
        (λ n. rw (is.next h x l, b, is.next g h (x ∷ l), n, is.next g x l, a, is.next h g (x ∷ l), ranks.either g h d, n)))
        (λ b. ahead g h x l d a b))
        (λ a. by-test (outranks h x)
        (λ b. sym (ahead h g x l (λ e. d (sym e)) b a))
        (λ b. rw (is.next h x l, b, is.next g x (put h l), a, is.next g x l, a, is.next h x (put g l), b, put-swap g h d l)))

    -- so an element may be inserted before or after the others
    pub put-past : (g : A) (gs l : List A) → elem (key g) (map key gs) ≡ false → foldr put (put g l) gs ≡ put g (foldr put l gs)
    put-past g [] l d = refl
    put-past g (h ∷ gs) l d =
        let o = or-none (eqb (key h) (key g)) _ d in
        ap (put h) (put-past g gs l o.1) ∙ put-swap h g (eqb-false (key h) (key g) o.0) (foldr put l gs)

    top_of : (k : ℕ) (gs l : List A) → different (map key gs) ≡ true → top_after put k (take k l) gs ≡ take k (foldr put l gs)
    top_of k [] l d = refl
    top_of k (g ∷ gs) l d =
        let e = not-true (elem (key g) (map key gs)) (and_left _ _ d) in
        ap (λ (m : List A). top_after put k m gs) (sym (take_put k g l))
        ∙ top_of k gs (put g l) (and_right (not (elem (key g) (map key gs))) _ d)
        ∙ ap (take k) (put-past g gs l e)

    -- inserted one after another into the list cut at k, they end as the first k of all by rank
    pub top-after : (k : ℕ) (gs : List A) → different (map key gs) ≡ true → top_after put k [] gs ≡ take k (foldr put [] gs)
    top-after k gs d = ap (λ (m : List A). top_after put k m gs) (sym (take-nil k)) ∙ top_of k gs [] d

-- the array of n places of which the first are used ---------------------------------------------------------------------

module _ {A : Type 0} where
  -- one element put in before place k, and the list cut
  take-insert : (n k : ℕ) (a : A) (l : List A) → k ≤ n → take (suc n) (take k l ++ a ∷ drop k l) ≡ take k (take n l) ++ a ∷ drop k (take n l)
  take-insert n zero a l h = refl
  take-insert zero (suc k) a l h = absurd (omega arith)
  take-insert (suc n) (suc k) a [] h = refl
  take-insert (suc n) (suc k) a (x ∷ l) h = ap {B = List A} (λ r. x ∷ r) (take-insert n k a l (omega arith))

  -- the rest of l moved up from place k, over x, and a put there
  insert-over : (k : ℕ) (a x : A) (l r : List A) → k ≤ length l → set (raised (length l) k (l ++ x ∷ r)) k a ≡ (take k l ++ a ∷ drop k l) ++ r
  insert-over k a x l r h =
      let g : length l < length (l ++ x ∷ r) = rw length-append (omega arith) in
      raised-done (length l) k (l ++ x ∷ r) a h g
      ∙ rw (take-append-le k l (x ∷ r) h, take-append_seam l (x ∷ r), past l r x, append_assoc (take k l) (a ∷ drop k l) r)

  -- the rest moved up from place k, over the last or the first free place, and a put there
  pub filled-over : (n : ℕ) (d : A) (l : List A) (k last : ℕ) (a : A) → k ≤ last → last ≤ length l → length l ≤ suc last → last < n
      → set (raised last k (l ++ replicate (n - length l) d)) k a
      ≡ take (suc last) (take k l ++ a ∷ drop k l) ++ replicate (n - length (take (suc last) (take k l ++ a ∷ drop k l))) d
  filled-over n d l k last a h f g room = by-test (eqb (length l) last) (λ y. free (eqb-true _ _ y)) (λ z. let q : length l ≡ last → ⊥ = eqb-false _ _ z in full (omega arith))
    where
      free : length l ≡ last → set (raised last k (l ++ replicate (n - length l) d)) k a ≡ take (suc last) (take k l ++ a ∷ drop k l) ++ replicate (n - length (take (suc last) (take k l ++ a ∷ drop k l))) d
      free e =
          let t = take_all (suc last) (take k l ++ a ∷ drop k l) (rw (length-insert k a l) (omega arith)) in
          rw t (ap (λ (i : ℕ). set (raised i k (l ++ replicate (n - length l) d)) k a) (sym e) ∙ filled-insert n d l k a (omega arith) (omega arith))

      full : length l ≡ suc last → set (raised last k (l ++ replicate (n - length l) d)) k a ≡ take (suc last) (take k l ++ a ∷ drop k l) ++ replicate (n - length (take (suc last) (take k l ++ a ∷ drop k l))) d
      full e =
          let p = take last l in
          let r = replicate (n - suc last) d in
          let x = get_or l last d in
          let len : length p ≡ last = length-take-le last l f in
          let cut : l ≡ p ++ (x ∷ []) = sym (take_all (suc last) l (omega arith)) ∙ take-suc l last d (omega arith) in
          let whole : l ++ r ≡ p ++ x ∷ r = ap (λ (m : List A). m ++ r) cut ∙ append_assoc p (x ∷ []) r in
          let over : set (raised last k (p ++ x ∷ r)) k a ≡ (take k p ++ a ∷ drop k p) ++ r = rw len at (insert-over k a x p r (omega arith)) in
          rw (e, take-insert last k a l h, length-insert k a p, len) (ap (λ (m : List A). set (raised last k m) k a) whole ∙ over)

-- falling numbers as keys ---------------------------------------------------------------------------------------------

-- no number of a falling list is there twice
pub falling-different : {m : ℕ} (l : List ℕ) → Falling m l → different l ≡ true
falling-different [] none = refl
falling-different (n ∷ l) (more a b f) = and_both (not (elem n l)) _ (rw (falling-high n n l (omega arith) f)) (falling-different l f)

-- n, .., 1 fall
pub down-falling : (n : ℕ) → Falling (suc n) (down n)
unfolding down
down-falling zero = none
down-falling (suc n) = more {m = suc (suc n)} {n = suc n} (omega arith) (omega arith) (down-falling n)

-- so none of them is there twice
pub different-down : (n : ℕ) → different (down n) ≡ true
different-down n = falling-different (down n) (down-falling n)
