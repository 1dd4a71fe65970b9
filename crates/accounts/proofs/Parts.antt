-- Sums over a part of the postings: those that pass a test, those of one window, those of one identifier; and pairs whose sums fit.
use Rattle.lists.proofs.Prelude.{Bool, true, false, ◌&&◌, List, [], ◌∷◌, ◌≡◌, refl, sym, ℕ, ◌≤◌, arith, eqb, pos, nat_abs, +ℤ_idl, eqb-true, eqb-false, ne_eqb, le-leb, keep, every, by-test, and_left, and_right, every-kept, and-false, every-member}
use Rattle.postings.specs.declared.Posting.{Posting}
use Rattle.postings.specs.Merge.{pairs}
use Rattle.postings.specs.Sums.{sum, under}
use Rattle.postings.proofs.Sums.{sum-pairs, sum-under}
use Rattle.postings.proofs.Merge.{pairs-ordered, ordered-sum}
use Rattle.partitions.specs.Formed.{in_range, sums_in_range}
use Rattle.removals.specs.Removal.{of_window}

-- does a posting belong to the pair of i and w
abbrev pub of_pair : ℕ → ℕ → Posting → Bool
of_pair i w p = eqb p.id i && eqb p.window w

module _ (i w : ℕ) where
  -- postings that a test leaves out add nothing, where none of them belongs to the pair
  pub sum_kept : (t : Posting → Bool) → ((p : Posting) → t p ≡ false → of_pair i w p ≡ false) → (l : List Posting) → sum (keep t l) i w ≡ sum l i w
  sum_kept t h [] = refl
  sum_kept t h (p ∷ l) =
      by-test (t p) (λ y. rw (y, sum_kept t h l)) (λ n. rw (n, h p n, sum_kept t h l) (sym (+ℤ_idl (sum l i w))))

  -- a pair to which none of the postings belongs sums to 0
  pub sum-apart : (t : Posting → Bool) → ((p : Posting) → t p ≡ true → of_pair i w p ≡ false) → (l : List Posting) → every t l ≡ true → sum l i w ≡ pos 0
  sum-apart t h [] e = refl
  sum-apart t h (p ∷ l) e = rw (h p (and_left (t p) _ e), sum-apart t h l (and_right (t p) _ e))

-- ---- one window

other-window : (i w v : ℕ) (p : Posting) → (w ≡ v → ⊥) → eqb p.window w ≡ true → of_pair i v p ≡ false
other-window i w v p d y = rw (eqb-true p.window w y, ne_eqb w v d) (and-false (eqb p.id i))

pub sum-window : (w i : ℕ) (l : List Posting) → sum (of_window w l) i w ≡ sum l i w
sum-window w i l = sum_kept i w (λ p. eqb p.window w) (λ p n. rw n (and-false (eqb p.id i))) l

pub sum-other-window : (w i v : ℕ) (l : List Posting) → (w ≡ v → ⊥) → sum (of_window w l) i v ≡ pos 0
sum-other-window w i v l d =
    sum-apart i v (λ p. eqb p.window w) (λ p y. other-window i w v p d y) (of_window w l) (every-kept (λ p. eqb p.window w) l)

-- ---- one identifier

pub sum-other-identifier : (j i v : ℕ) (l : List Posting) → (j ≡ i → ⊥) → sum (under j l) i v ≡ pos 0
sum-other-identifier j i v l d =
    sum-apart i v (λ p. eqb p.id j) (λ p y. rw (eqb-true p.id j y, ne_eqb j i d)) (under j l) (every-kept (λ p. eqb p.id j) l)

-- ---- sums that fit

-- where every sum fits, every pair fits
pub sums-in-range : (l : List Posting) → ((i w : ℕ) → nat_abs (sum l i w) ≤ 32767) → sums_in_range l ≡ true
unfolding sums_in_range
sums-in-range l h =
    every-member (λ p. in_range p.count) (pairs l)
    (λ p m. le-leb (nat_abs p.count) 32767
    (rw (← ordered-sum (pairs l) (pairs-ordered l) m, sum-pairs p.id p.window l) (h p.id p.window)))

pub window-in-range : (w : ℕ) (l : List Posting) → ((i v : ℕ) → nat_abs (sum l i v) ≤ 32767) → sums_in_range (of_window w l) ≡ true
window-in-range w l h =
    sums-in-range (of_window w l)
    (λ i v. by-test (eqb w v) (λ y. rw (← eqb-true w v y, sum-window w i l) (h i w)) (λ n. rw (sum-other-window w i v l (eqb-false w v n)) (omega arith)))

pub identifier-in-range : (j : ℕ) (l : List Posting) → ((i v : ℕ) → nat_abs (sum l i v) ≤ 32767) → sums_in_range (under j l) ≡ true
identifier-in-range j l h =
    sums-in-range (under j l)
    (λ i v. by-test (eqb j i) (λ y. rw (← eqb-true j i y, sum-under j v l) (h j v)) (λ n. rw (sum-other-identifier j i v l (eqb-false j i n)) (omega arith)))
