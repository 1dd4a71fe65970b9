-- Sums of one identifier's postings: the test of the pairs that occur is a test of every window, and so is F.
use Rattle.lists.proofs.Prelude.{total_by, Bool, true, ◌&&◌, List, [], ◌∷◌, ⊎_elim, ◌≡◌, refl, sym, ap, ap₂, ◌∙◌, ℕ, zero, suc, ◌<◌, ◌≤◌, arith, ltb, eqb, ℤ, pos, ◌+ℤ◌, +ℤ_idl, +ℤ_idr, length, ltb-true, lt-ltb, eqb-true, eq-eqb, ne_eqb, keep, every, down, by-test, and_left, and_right, and_both, and-swap, every-from}
use Rattle.keyed.specs.Keys.{over_keys}
use Rattle.keyed.proofs.Walk.{over-same, over_none, over-step}
use Rattle.postings.specs.declared.Posting.{Posting}
use Rattle.postings.specs.Order.{precedes, ordered}
use Rattle.postings.specs.Merge.{pairs}
use Rattle.postings.specs.Sums.{sum, above}
use Rattle.postings.proofs.Order.{precedes-cases}
use Rattle.postings.proofs.Sums.{sum-pairs}
use Rattle.postings.proofs.Merge.{every-puts, pairs-ordered}
use Rattle.partitions.specs.Formed.{in_range, sums_in_range}
use Rattle.terms.specs.declared.judging.Told.{Told}
use Rattle.terms.specs.Judged.{total_z, ranges, unspread, spread_at}
use Rattle.terms.proofs.Steps.{spread_none}

-- the test of one sum at every window
abbrev pub range : ℕ → ℤ → Bool → Bool
range w z b = in_range z && b

-- a posting of the identifier i with a window below m
abbrev pub own : ℕ → ℕ → Posting → Bool
own i m p = eqb p.id i && ltb p.window m

-- the postings of one identifier, by falling window below m
pub data Falls (i : ℕ) : ℕ → List Posting → Type 0 where
  none : {m : ℕ} → Falls i m []
  more : {m : ℕ} {p : Posting} {l : List Posting} → p.id ≡ i → p.window < m → Falls i p.window l → Falls i m (p ∷ l)

-- an ordered list of one identifier's postings falls
pub falling : (i m : ℕ) (l : List Posting) → ordered l ≡ true → every (own i m) l ≡ true → Falls i m l
falling i m [] o e = none
falling i m (p ∷ l) o e =
    let t = and_left (own i m p) _ e in
    let s : p.id ≡ i = eqb-true p.id i (and_left _ _ t) in
    more s (ltb-true p.window m (and_right (eqb p.id i) _ t))
    (falling i p.window l (and_right (every (precedes p) l) _ o) (every-from (precedes p) (own i m) (own i p.window) (lower s) l (and_left _ _ o) (and_right (own i m p) _ e)))
  where
    lower : p.id ≡ i → (q : Posting) → precedes p q ≡ true → own i m q ≡ true → own i p.window q ≡ true
    lower s q c t =
        let j = and_left (eqb q.id i) _ t in
        let k : q.id ≡ i = eqb-true q.id i j in
        let g : q.window < p.window = ⊎_elim (λ a. absurd (omega arith)) (λ a. a.1) (precedes-cases p q c) in
        and_both (eqb q.id i) _ j (lt-ltb q.window p.window g)

sum-high : {i m : ℕ} (w : ℕ) (l : List Posting) → m ≤ w → Falls i m l → sum l i w ≡ pos 0
sum-high w [] h none = refl
sum-high {i} w (p ∷ l) h (more e b f) =
    rw (eq-eqb p.id i e, ne_eqb p.window w (λ q. omega arith)) (+ℤ_idl _ ∙ sum-high w l (omega arith) f)

-- f over postings, the first outermost
abbrev pub over_postings : {A : Type 0} → (ℕ → ℤ → A → A) → A → List Posting → A
over_postings f a [] = a
over_postings f a (p ∷ l) = f p.window p.count (over_postings f a l)

-- where f passes over a sum of 0, f over all windows below m is f over postings that fall
module _ {A : Type 0} (f : ℕ → ℤ → A → A) (a : A) (still : (w : ℕ) (r : A) → f w (pos 0) r ≡ r) (i : ℕ) where
  pub over-falls : (m : ℕ) (l : List Posting) → Falls i m l → over_keys f a m (λ w. sum l i w) ≡ over_postings f a l
  over-falls m [] none = over_none f a m (λ w. pos 0) (λ j r. still j r)
  over-falls m (p ∷ l) (more e b g) =
      over-step f a p.window m b (λ w. sum (p ∷ l) i w) (λ w. sum l i w) p.count
      (λ j r h. rw (sum-high j (p ∷ l) (omega arith) (more {m = suc p.window} e (omega arith) g)) (still j r))
      (rw (eq-eqb p.id i e, eq-eqb p.window p.window refl, sum-high p.window l (omega arith) g) (+ℤ_idr p.count))
      (λ j h. rw (eq-eqb p.id i e, ne_eqb p.window j (λ q. omega arith)) (+ℤ_idl (sum l i j)))
      ∙ ap (f p.window p.count) (over-falls p.window l g)

  -- f over the pairs that occur
  pub over-pairs : (m : ℕ) (l : List Posting) → every (own i m) l ≡ true → over_postings f a (pairs l) ≡ over_keys f a m (λ w. sum l i w)
  unfolding pairs
  over-pairs m l e =
      sym (over-falls m (pairs l) (falling i m (pairs l) (pairs-ordered l) (every-puts (own i m) (λ q c t. t) l [] e refl)))
      ∙ over-same f a m (λ w. sum (pairs l) i w) (λ w. sum l i w) (λ j h. sum-pairs i j l)

every-over : (l : List Posting) → every (λ p. in_range p.count) l ≡ over_postings range true l
every-over [] = refl
every-over (p ∷ l) = rw (every-over l)

-- every pair's sum fits where every window's does
pub sums-range : (i m : ℕ) (l : List Posting) → every (own i m) l ≡ true → sums_in_range l ≡ over_keys range true m (λ w. sum l i w)
unfolding sums_in_range
sums-range i m l e = every-over (pairs l) ∙ over-pairs range true (λ w r. refl) i m l e

-- two groups: the sums of the first are in range, and those of both
pub over-two : (A B : ℕ → ℤ) (m : ℕ) → over_keys ranges true m (λ w. A w ∷ B w ∷ []) ≡ (over_keys range true m A && over_keys range true m (λ w. A w +ℤ (B w +ℤ pos 0)))
unfolding over_keys
over-two A B zero = refl
over-two A B (suc m) =
    rw (over-two A B m) (and-swap (in_range (A m)) (in_range (A m +ℤ (B m +ℤ pos 0))) (over_keys range true m A) (over_keys range true m (λ w. A w +ℤ (B w +ℤ pos 0))))

-- of the windows from n down that show, in how many something counts and how much, where nothing counts in window 0
pub over-down : (shows : ℕ → Bool) (c : ℕ → ℕ) (S : ℕ → List ℤ) → ((w : ℕ) → c w ≡ above (total_z (S w))) → c 0 ≡ 0 → (n : ℕ)
    → over_keys (spread_at shows) unspread (suc n) S ≡ record { windows = length (keep (λ w. ltb 0 (c w)) (keep shows (down n))); total = total_by c (keep shows (down n)) }
unfolding down over_keys
over-down shows c S e z zero = by-test (shows 0) (λ y. rw (y, ← e 0, z)) (λ y. rw y)
over-down shows c S e z (suc n) =
    ap (spread_at shows (suc n) (S (suc n))) (over-down shows c S e z n)
    ∙ by-test (shows (suc n))
    (λ y. by-test (ltb 0 (c (suc n))) (λ t. rw (y, ← e (suc n), t) (ap₂ {C = Told} (λ (a b : ℕ). record { windows = a; total = b }) (omega arith) refl)) (λ t. rw (y, ← e (suc n), t) (ap₂ {C = Told} (λ (a b : ℕ). record { windows = a; total = b }) (omega arith) refl)))
    (λ y. rw y (spread_none _))
