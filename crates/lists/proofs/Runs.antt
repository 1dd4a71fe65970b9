-- Runs along a list: stores one after another, numbers upward, a test of each, a set of numbers that takes them in one by one.
use mathlib.Core.Bool.{Bool, true, false, ◌&&◌, ◌||◌, not, and-true, and-false, or-false}
use mathlib.Core.List.{List, [], ◌∷◌, ◌++◌}
use mathlib.Core.Logic.{◌⊎◌, inl, inr, ⊎_elim}
use mathlib.Core.Path.{◌≡◌, refl, sym, ap, ◌∙◌}
use Prim.Native.Nat.{ℕ, zero, suc, ◌+◌, ◌-◌, ◌<◌, ◌≤◌}
use native.Mathlib.Omega.{arith}
use lib.Dec.{eqb, leb}
use lib.ListN.{length, get_or, set, drop}
use lib.Seq.{drop-cons, sets, get_or-set_other}
use borrow.Author.Tests.{eqb-true, eqb-false, eq-eqb, ne_eqb, leb-true, leb-false, le-leb, lt-leb}
use Rattle.lists.specs.Lists.{keep, every, elem, different, rising}
use Rattle.lists.proofs.Bools.{by-test}

-- a test does not both fail and pass
pub never : {A : Type 0} → false ≡ true → A
never e = let z : ◌≡◌ {A = ℕ} 0 1 = cc in absurd (omega arith)

-- the test of equality goes both ways
pub eqb_swap : (a b : ℕ) → eqb a b ≡ eqb b a
eqb_swap a b =
    by-test (eqb a b)
    (λ y. rw (y, eq-eqb b a (sym (eqb-true a b y))))
    (λ y. rw (y, ne_eqb b a (λ e. eqb-false a b y (sym e))))

-- one element fewer of a count is wanted where one was found
pub leb-less : (m n : ℕ) → 0 < m → leb m (suc n) ≡ leb (m - 1) n
leb-less m n h =
    by-test (leb (m - 1) n)
    (λ y. rw y (le-leb m (suc n) (omega (arith, leb-true (m - 1) n y))))
    (λ y. rw y (lt-leb m (suc n) (omega (arith, leb-false (m - 1) n y))))

-- none is enough where none is wanted
pub leb-none : (m : ℕ) → leb m 0 ≡ eqb m 0
leb-none m =
    by-test (eqb m 0)
    (λ y. rw y (le-leb m 0 (omega (arith, eqb-true m 0 y))))
    (λ y. let d : m ≡ 0 → ⊥ = eqb-false m 0 y in rw y (lt-leb m 0 (omega arith)))

-- the numbers of a list are different, and none is in the set p
abbrev pub apart : (ℕ → Bool) → List ℕ → Bool
apart p l = different l && every (λ k. not (p k)) l

-- q is the set p with one number more
module _ (p q : ℕ → Bool) (n : ℕ) (more : (k : ℕ) → q k ≡ (eqb n k || p k)) where
  -- none of a list is in q where n is not in the list, and none is in p
  pub none_more : (l : List ℕ) → every (λ k. not (q k)) l ≡ (not (elem n l) && every (λ k. not (p k)) l)
  none_more [] = refl
  none_more (x ∷ l) = rw (more x, none_more l, eqb_swap n x) (turn (eqb x n) (p x) (elem n l) (every (λ k. not (p k)) l))
    where
      turn : (a b c d : Bool) → (not (a || b) && (not c && d)) ≡ (not (a || c) && (not b && d))
      turn true b c d = refl
      turn false true true d = refl
      turn false true false d = refl
      turn false false c d = refl

  -- so different numbers that are not in p are judged one by one
  pub apart_more : (l : List ℕ) → p n ≡ false → apart p (n ∷ l) ≡ apart q l
  apart_more l e = rw (e, none_more l) (turn (elem n l) (different l) (every (λ k. not (p k)) l))
    where
      turn : (a b c : Bool) → ((not a && b) && c) ≡ (b && (not a && c))
      turn true true c = refl
      turn true false c = refl
      turn false b c = refl

  -- and what is in p or in a list is collected one by one
  pub union_more : (l : List ℕ) (k : ℕ) → (p k || elem k (n ∷ l)) ≡ (q k || elem k l)
  union_more l k = rw (more k) (turn (p k) (eqb n k) (elem k l))
    where
      turn : (a b c : Bool) → (a || (b || c)) ≡ ((b || a) || c)
      turn true true c = refl
      turn true false c = refl
      turn false true c = refl
      turn false false c = refl

-- a number that is in p already
pub apart-hit : (p : ℕ → Bool) (n : ℕ) (l : List ℕ) → p n ≡ true → apart p (n ∷ l) ≡ false
apart-hit p n l e = rw e (and-false (different (n ∷ l)))

-- two sets that agree
pub apart-same : (p q : ℕ → Bool) (l : List ℕ) → ((k : ℕ) → p k ≡ q k) → apart p l ≡ apart q l
apart-same p q l h = ap (λ (t : Bool). different l && t) (none l)
  where
    none : (m : List ℕ) → every (λ k. not (p k)) m ≡ every (λ k. not (q k)) m
    none [] = refl
    none (x ∷ m) = rw (h x, none m)

-- of two lists one after another the second is judged by the set with the first in it
pub apart-append : (p q : ℕ → Bool) (l m : List ℕ) → ((k : ℕ) → q k ≡ (p k || elem k l)) → apart p (l ++ m) ≡ (apart p l && apart q m)
apart-append p q [] m h = apart-same p q m (λ k. sym (h k ∙ or-false (p k)))
apart-append p q (n ∷ l) m h =
    by-test (p n)
    (λ y. rw (apart-hit p n (l ++ m) y, apart-hit p n l y))
    (λ y. let r : ℕ → Bool = λ k. eqb n k || p k in
    apart_more p r n (λ k. refl) (l ++ m) y
    ∙ apart-append r q l m (λ k. h k ∙ union_more p r n (λ j. refl) l k)
    ∙ ap (λ (t : Bool). t && apart q m) (sym (apart_more p r n (λ k. refl) l y)))

-- of the empty set no list has a number
pub apart_none : (p : ℕ → Bool) (l : List ℕ) → ((k : ℕ) → p k ≡ false) → apart p l ≡ different l
apart_none p l h = ap (λ (t : Bool). different l && t) (none l) ∙ and-true (different l)
  where
    none : (m : List ℕ) → every (λ k. not (p k)) m ≡ true
    none [] = refl
    none (x ∷ m) = rw (h x, none m)

-- and the one at a place
pub get_or-rising : (n count i : ℕ) → i < count → get_or (rising n count) i 0 ≡ n + i
unfolding rising
get_or-rising n zero i h = absurd (omega arith)
get_or-rising n (suc count) zero h = omega arith
get_or-rising n (suc count) (suc i) h = get_or-rising (suc n) count i (omega arith) ∙ (omega arith)

-- what a test keeps from place i on
module _ (t : ℕ → Bool) (l : List ℕ) (i : ℕ) (h : i < length l) where
  -- the element there passes
  pub keep-here : t (get_or l i 0) ≡ true → keep t (drop i l) ≡ get_or l i 0 ∷ keep t (drop (suc i) l)
  keep-here e = rw (drop-cons l i 0 h, e)

  -- it does not
  pub keep-past : t (get_or l i 0) ≡ false → keep t (drop i l) ≡ keep t (drop (suc i) l)
  keep-past e = rw (drop-cons l i 0 h, e)

-- a run of stores leaves what lies before it and what lies past it
pub get_or-sets-out : {A : Type 0} (vs l : List A) (i k : ℕ) (d : A) → (k < i) ⊎ (i + length vs ≤ k) → get_or (sets l i vs) k d ≡ get_or l k d
get_or-sets-out [] l i k d h = refl
get_or-sets-out (v ∷ vs) l i k d h =
    get_or-sets-out vs (set l i v) (suc i) k d (⊎_elim (λ b. inl (omega arith)) (λ b. inr (omega arith)) h)
    ∙ get_or-set_other l i k v d (λ e. ⊎_elim (λ b. omega arith) (λ b. omega arith) h)
