-- A window's sums, and its counts read from them.
use Rattle.lists.proofs.Prelude.{Bool, true, List, [], ◌∷◌, List-as-Memᴰ, ◌≡◌, refl, sym, ◌∙◌, ℕ, ◌≤◌, eqb, ℤ, pos, nat_abs, +ℤ_idl, eqb-true, every, by-test, every-kept, every-keep, every-mem, and-false}
use Rattle.postings.specs.declared.Posting.{Posting}
use Rattle.postings.specs.Order.{ordered}
use Rattle.postings.specs.Merge.{counting, is_counted, pairs, nonzero}
use Rattle.postings.specs.Sums.{sum}
use Rattle.postings.proofs.Sums.{sum-merge}
use Rattle.postings.proofs.Merge.{every-puts, pairs-ordered, nonzero-ordered, nonzero-counts, ordered-sum}
use Rattle.partitions.specs.Formed.{sums_in_range}
use Rattle.partitions.proofs.Ranges.{sums-fit}
use Rattle.sums.specs.Tally.{of_window, counts_of}

-- ---- sums of a window's postings

module _ (w i : ℕ) where
  -- the window's sums are those of its own postings
  pub window-sum : (l : List Posting) → sum (of_window w l) i w ≡ sum l i w
  window-sum [] = refl
  window-sum (p ∷ l) =
      by-test (eqb p.window w) (λ y. rw (y, window-sum l, y)) (λ n. rw (n, and-false (eqb p.id i), window-sum l) (sym (+ℤ_idl (sum l i w))))

  -- and other windows have none in them
  pub other-sum : (v : ℕ) → (v ≡ w → ⊥) → (l : List Posting) → sum (of_window w l) i v ≡ pos 0
  other-sum v h [] = refl
  other-sum v h (p ∷ l) =
      by-test (eqb p.window w)
      (λ y. by-test (eqb p.window v) (λ z. absurd (h (sym (eqb-true _ _ z) ∙ eqb-true _ _ y)))
      (λ n. rw (y, n, and-false (eqb p.id i), other-sum v h l) refl))
      (λ n. rw (n, other-sum v h l))

-- a window whose sums are judged has sums that fit
pub window-fits : (w i : ℕ) (l : List Posting) → sums_in_range (of_window w l) ≡ true → nat_abs (sum l i w) ≤ 32767
window-fits w i l e = rw (← window-sum w i l) (sums-fit i w (of_window w l) e)

-- ---- its counts

module _ (w : ℕ) (l : List Posting) where
  -- are in order
  pub counts-ordered : ordered (counts_of w l) ≡ true
  unfolding counts_of
  counts-ordered = nonzero-ordered _ (pairs-ordered (of_window w l))

  -- and not 0
  pub counts_some : every is_counted (counts_of w l) ≡ true
  unfolding counts_of
  counts_some = nonzero-counts _

  counts-window : every (λ p. eqb p.window w) (counts_of w l) ≡ true
  unfolding counts_of nonzero pairs
  counts-window =
      every-keep is_counted (λ p. eqb p.window w) (pairs (of_window w l)) (every-puts (λ p. eqb p.window w) (λ q c e. e) (of_window w l) [] (every-kept (λ p. eqb p.window w) l) refl)

  counts-sum : (i v : ℕ) → sum (counts_of w l) i v ≡ sum (of_window w l) i v
  unfolding counts_of
  counts-sum i v = sum-merge i v (of_window w l)

  -- their sums are the window's
  pub counts-own : (i : ℕ) → sum (counts_of w l) i w ≡ sum l i w
  counts-own i = counts-sum i w ∙ window-sum w i l

  -- and no other's
  pub counts-other : (i v : ℕ) → (v ≡ w → ⊥) → sum (counts_of w l) i v ≡ pos 0
  counts-other i v h = counts-sum i v ∙ other-sum w i v h l

  -- each is of the window, and its count is the pair's sum
  pub count-there : (p : Posting) → List-as-Memᴰ p (counts_of w l) → (p.window ≡ w) × (p.count ≡ sum l p.id w)
  count-there p m =
      let e : p.window ≡ w = eqb-true _ _ (every-mem (λ q. eqb q.window w) (counts_of w l) counts-window m) in
      (e, sym (ordered-sum (counts_of w l) counts-ordered m) ∙ rw e (counts-own p.id))

  -- what all postings pass by their pairs alone, the counts pass
  pub counts-pass : (t : Posting → Bool) → ((q : Posting) (c : ℤ) → t q ≡ true → t (counting q c) ≡ true) → every t l ≡ true → every t (counts_of w l) ≡ true
  unfolding counts_of nonzero pairs
  counts-pass t h e = every-keep is_counted t (pairs (of_window w l)) (every-puts t h (of_window w l) [] (every-keep (λ p. eqb p.window w) t l e) refl)
