-- A joint walk over several groups of lists, as the lists of a query's identifiers: each group has its own sum of a key.
use Prim.Native.Nat.{max}
use Rattle.lists.proofs.Prelude.{Bool, true, false, cond, ◌&&◌, and-false, List, [], ◌∷◌, map, ◌≡◌, refl, sym, ◌∙◌, ℕ, suc, ◌<◌, ◌≤◌, zero-le, arith, ℤ, pos, AllOf, by-test, and_left, and_right, and_both, and-swap}
use Rattle.keyed.specs.Keys.{rest, sums, all_fall, over_keys, topmost_from, head_vals, heads_fine}
use Rattle.keyed.specs.Groups.{Group, top_all, all_fall_all, move_all, heads_fine_all}
use Rattle.keyed.proofs.Walk.{Under, none, more, under_top, top-falls, spent-falls, spent-sums, Stepped, stepped, step_falls, over_none, over-step}

under-le : (s t : ℕ) (g : Group) → s ≤ t → Under s g → Under t g
under-le s t [] h u = none
under-le s t (l ∷ g) h (more a u) = more {l = l} (omega arith) (under-le s t g h u)

top-all-from : (t : ℕ) (gs : List Group) → t ≤ top_all t gs
top-all-from t [] = omega arith
top-all-from t (g ∷ gs) = let b = top-all-from (max t (topmost_from 0 g)) gs in omega arith

pub under_all : (t : ℕ) (gs : List Group) → AllOf (Under (top_all t gs)) gs
unfolding AllOf
under_all t [] = tt
under_all t (g ∷ gs) =
    let b = top-all-from (max t (topmost_from 0 g)) gs in
    (under-le (topmost_from 0 g) (top_all (max t (topmost_from 0 g)) gs) g (omega arith) (under_top 0 g), under_all (max t (topmost_from 0 g)) gs)

pub stepped-all : (m k : ℕ) (gs : List Group) → AllOf (Under (suc k)) gs → k < m → all_fall_all m gs ≡ true → AllOf (Stepped k) gs
unfolding AllOf
stepped-all m k [] u low e = tt
stepped-all m k (g ∷ gs) u low e = (stepped m k g u.0 low (and_left _ _ e), stepped-all m k gs u.1 low (and_right (all_fall m g) _ e))

-- a sum that passes nothing on
abbrev pub Zero : ℤ → Type 0
Zero z = z ≡ pos 0

module _ (k : ℕ) where
  over-all : (j : ℕ) → k < j → (gs : List Group) → AllOf (Stepped k) gs → AllOf Zero (map (sums j) gs)
  unfolding AllOf
  over-all j h [] s = tt
  over-all j h (g ∷ gs) s = (s.0.over j h, over-all j h gs s.1)

  here-all : (gs : List Group) → AllOf (Stepped k) gs → map (sums k) gs ≡ map (head_vals k) gs
  unfolding AllOf
  here-all [] s = refl
  here-all (g ∷ gs) s = rw (s.0.here, here-all gs s.1)

  below_all : (j : ℕ) → j < k → (gs : List Group) → AllOf (Stepped k) gs → map (sums j) gs ≡ map (sums j) (move_all k gs)
  unfolding AllOf
  below_all j h [] s = refl
  below_all j h (g ∷ gs) s = rw (s.0.below j h, below_all j h gs s.1)

-- one step of the joint walk, for an f that passes over a key whose sums are all 0
pub step-all : {A : Type 0} (f : ℕ → List ℤ → A → A) (a : A) → ((j : ℕ) (v : List ℤ) (r : A) → AllOf Zero v → f j v r ≡ r)
    → (m k : ℕ) (gs : List Group) → k < m → top_all 0 gs ≡ suc k → all_fall_all m gs ≡ true
    → over_keys f a m (λ j. map (sums j) gs) ≡ f k (map (head_vals k) gs) (over_keys f a k (λ j. map (sums j) (move_all k gs)))
step-all f a still m k gs low top e =
    let s = stepped-all m k gs (rw top at (under_all 0 gs)) low e in
    over-step f a k m low (λ j. map (sums j) gs) (λ j. map (sums j) (move_all k gs)) (map (head_vals k) gs)
    (λ j r h. still j (map (sums j) gs) r (over-all k j h gs s)) (here-all k gs s) (λ j h. below_all k j h gs s)

-- ---- nothing is left, and a head above the bound

spent_all : (m : ℕ) (gs : List Group) → AllOf (Under 0) gs → all_fall_all m gs ≡ true
unfolding AllOf
spent_all m [] u = refl
spent_all m (g ∷ gs) u = and_both (all_fall m g) _ (spent-falls m g u.0) (spent_all m gs u.1)

pub spent-zero : (j : ℕ) (gs : List Group) → AllOf (Under 0) gs → AllOf Zero (map (sums j) gs)
unfolding AllOf
spent-zero j [] u = tt
spent-zero j (g ∷ gs) u = (spent-sums j g u.0, spent-zero j gs u.1)

pub top-all-falls : (m t : ℕ) (gs : List Group) → t ≤ m → all_fall_all m gs ≡ true → top_all t gs ≤ m
top-all-falls m t [] h e = h
top-all-falls m t (g ∷ gs) h e =
    let a = top-falls m 0 g zero-le (and_left _ _ e) in top-all-falls m (max t (topmost_from 0 g)) gs (omega arith) (and_right (all_fall m g) _ e)

pub step-falls-all : (m k : ℕ) (gs : List Group) → AllOf (Under (suc k)) gs → k < m → all_fall_all m gs ≡ (heads_fine_all k gs && all_fall_all k (move_all k gs))
unfolding AllOf
step-falls-all m k [] u low = refl
step-falls-all m k (g ∷ gs) u low =
    rw (step_falls m k g u.0 low, step-falls-all m k gs u.1 low)
    (and-swap (heads_fine k g) (all_fall k (map (rest k) g)) (heads_fine_all k gs) (all_fall_all k (move_all k gs)))

-- ---- a walk that judges as it goes: every list of every group falls and the groups' sums of each key pass the test `ok`, else `bad`; f over all
-- keys gives the answer. Both the test and f pass over a key whose sums are all 0

module _ {A R : Type 0} (ok : List ℤ → Bool) (quiet : (v : List ℤ) → AllOf Zero v → ok v ≡ true)
    (f : ℕ → List ℤ → A → A) (a : A) (still : (j : ℕ) (v : List ℤ) (r : A) → AllOf Zero v → f j v r ≡ r) (bad : R) where
  abbrev oks : ℕ → List ℤ → Bool → Bool
  oks k v b = ok v && b

  quiet_ok : (k : ℕ) (v : List ℤ) (r : Bool) → AllOf Zero v → oks k v r ≡ r
  quiet_ok k v r z = rw (quiet v z)

  -- the answer, where groups with keys below m are left, and `answer` of what f gives over them is the whole answer
  unfoldable pub resume_all : (A → R) → ℕ → List Group → R
  resume_all answer m gs = cond (all_fall_all m gs && over_keys oks true m (λ j. map (sums j) gs)) (answer (over_keys f a m (λ j. map (sums j) gs))) bad

  pub resume-all-same : (g h : A → R) → ((x : A) → g x ≡ h x) → (m : ℕ) (gs : List Group) → resume_all g m gs ≡ resume_all h m gs
  unfolding resume_all
  resume-all-same g h e m gs = rw (e (over_keys f a m (λ j. map (sums j) gs)))

  module _ (answer : A → R) (m : ℕ) (gs : List Group) where
    pub ended-all : top_all 0 gs ≡ 0 → resume_all answer m gs ≡ answer a
    unfolding resume_all
    ended-all e =
        let u = rw e at (under_all 0 gs) in
        rw (
          spent_all m gs u,
          over_none oks true m (λ j. map (sums j) gs) (λ j r. quiet_ok j (map (sums j) gs) r (spent-zero j gs u)),
          over_none f a m (λ j. map (sums j) gs) (λ j r. still j (map (sums j) gs) r (spent-zero j gs u)),
        )

    pub too-high-all : m < top_all 0 gs → resume_all answer m gs ≡ bad
    unfolding resume_all
    too-high-all h = by-test (all_fall_all m gs) (λ e. let t = top-all-falls m 0 gs zero-le e in absurd (omega arith)) (λ e. rw e)

    module _ (k : ℕ) (top : top_all 0 gs ≡ suc k) (low : suc k ≤ m) where
      abbrev after : R
      after =
          cond (heads_fine_all k gs && (ok (map (head_vals k) gs) && (all_fall_all k (move_all k gs) && over_keys oks true k (λ j. map (sums j) (move_all k gs)))))
          (answer (f k (map (head_vals k) gs) (over_keys f a k (λ j. map (sums j) (move_all k gs))))) bad

      split : all_fall_all m gs ≡ (heads_fine_all k gs && all_fall_all k (move_all k gs))
      split = step-falls-all m k gs (rw top at (under_all 0 gs)) low

      judged : resume_all answer m gs ≡ after
      unfolding resume_all
      judged = by-test (all_fall_all m gs) yes no
        where
          yes : all_fall_all m gs ≡ true → cond (all_fall_all m gs && over_keys oks true m (λ j. map (sums j) gs)) (answer (over_keys f a m (λ j. map (sums j) gs))) bad ≡ after
          yes e =
              let b = sym split ∙ e in
              rw (
                e,
                step-all oks true quiet_ok m k gs low top e,
                step-all f a still m k gs low top e,
                and_left (heads_fine_all k gs) (all_fall_all k (move_all k gs)) b,
                and_right (heads_fine_all k gs) (all_fall_all k (move_all k gs)) b,
              )

          no : all_fall_all m gs ≡ false → cond (all_fall_all m gs && over_keys oks true m (λ j. map (sums j) gs)) (answer (over_keys f a m (λ j. map (sums j) gs))) bad ≡ after
          no e =
              by-test (heads_fine_all k gs)
              (λ t. let b : all_fall_all k (move_all k gs) ≡ false = rw t at (sym split ∙ e) in rw (e, t, b, and-false (ok (map (head_vals k) gs))))
              (λ t. rw (e, t))

      pub not-formed-all : heads_fine_all k gs ≡ false → resume_all answer m gs ≡ bad
      not-formed-all e = judged ∙ rw e

      pub out-of-range-all : ok (map (head_vals k) gs) ≡ false → resume_all answer m gs ≡ bad
      out-of-range-all e = judged ∙ rw (e, and-false (heads_fine_all k gs))

      pub went-on-all : heads_fine_all k gs ≡ true → ok (map (head_vals k) gs) ≡ true
          → resume_all answer m gs ≡ resume_all (λ x. answer (f k (map (head_vals k) gs) x)) k (move_all k gs)
      unfolding resume_all
      went-on-all e w = let s = judged in s ∙ rw (e, w)
