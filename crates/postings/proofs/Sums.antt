-- The sum of a pair: what joining, ordering, merging and taking back do to it.
use Rattle.lists.proofs.Prelude.{Bool, true, false, not, cond, ◌&&◌, List, [], ◌∷◌, ◌++◌, foldr, map, ◌≡◌, refl, sym, ap, ◌∙◌, ℕ, zero, suc, eqb, ℤ, pos, negsuc, neg_ℤ, ◌+ℤ◌, +ℤ_idl, +ℤ_idr, +ℤ_assoc, neg_ℤ-+ℤ, keep, by-test}
use Rattle.lists.proofs.Ints.{sum-swap}
use Rattle.postings.specs.Order.{precedes, same_pair}
use Rattle.postings.specs.Merge.{counting, put, is_zero, is_counted, nonzero, pairs, negated}
use Rattle.postings.specs.Sums.{share, sum, under}
use Rattle.postings.specs.declared.Posting.{Posting}
use Rattle.postings.proofs.Order.{same-pair}

-- only 0 is 0
pub is-zero : (z : ℤ) → is_zero z ≡ true → z ≡ pos 0
is-zero (pos zero) e = refl
is-zero (pos (suc n)) e = cc
is-zero (negsuc n) e = cc

module _ (i w : ℕ) where
  -- one list after another
  pub sum-append : (l m : List Posting) → sum (l ++ m) i w ≡ sum l i w +ℤ sum m i w
  sum-append [] m = sym (+ℤ_idl (sum m i w))
  sum-append (p ∷ l) m = rw (sum-append l m) (sym (+ℤ_assoc (share p i w) (sum l i w) (sum m i w)))

  -- one posting put in
  pub sum-put : (p : Posting) (l : List Posting) → sum (put p l) i w ≡ share p i w +ℤ sum l i w
  sum-put p [] = refl
  sum-put p (q ∷ l) =
      by-test (same_pair p q) (λ y. rw y (joined y))
      (λ n. by-test (precedes p q) (λ y. rw (n, y)) (λ m. rw (n, m, sum-put p l) (sum-swap (share q i w) (share p i w) (sum l i w))))
    where
      both : (t : Bool) → cond t (p.count +ℤ q.count) (pos 0) +ℤ sum l i w ≡ cond t p.count (pos 0) +ℤ (cond t q.count (pos 0) +ℤ sum l i w)
      both true = +ℤ_assoc p.count q.count (sum l i w)
      both false = sym (+ℤ_idl _)

      joined : same_pair p q ≡ true → sum (counting q (p.count +ℤ q.count) ∷ l) i w ≡ share p i w +ℤ (share q i w +ℤ sum l i w)
      joined y = let s = same-pair p q y in rw (s.0, s.1) (both (eqb q.id i && eqb q.window w))

  -- the postings of a list put in, one after the other
  pub sum-puts : (l m : List Posting) → sum (foldr put m l) i w ≡ sum l i w +ℤ sum m i w
  sum-puts [] m = sym (+ℤ_idl (sum m i w))
  sum-puts (p ∷ l) m = sum-put p (foldr put m l) ∙ rw (sum-puts l m) (sym (+ℤ_assoc (share p i w) (sum l i w) (sum m i w)))

  -- the pairs of a list have its sums
  pub sum-pairs : (l : List Posting) → sum (pairs l) i w ≡ sum l i w
  unfolding pairs
  sum-pairs l = sum-puts l [] ∙ +ℤ_idr (sum l i w)

  -- what is left out adds nothing
  sum-keep : (t : Posting → Bool) → ((p : Posting) → t p ≡ false → share p i w ≡ pos 0) → (l : List Posting) → sum (keep t l) i w ≡ sum l i w
  sum-keep t h [] = refl
  sum-keep t h (p ∷ l) =
      by-test (t p) (λ y. rw (y, sum-keep t h l)) (λ n. rw (n, h p n, sum-keep t h l) (sym (+ℤ_idl (sum l i w))))

  -- counts of 0 add nothing
  pub sum-nonzero : (l : List Posting) → sum (nonzero l) i w ≡ sum l i w
  unfolding nonzero
  sum-nonzero l = sum-keep is_counted (λ p n. none p.count n (eqb p.id i && eqb p.window w)) l
    where
      none : (c : ℤ) → not (is_zero c) ≡ false → (t : Bool) → cond t c (pos 0) ≡ pos 0
      none c n true = by-test (is_zero c) (is-zero c) (λ m. let z : true ≡ false = rw m at n in cc)
      none c n false = refl

  -- a merge keeps every sum
  pub sum-merge : (l : List Posting) → sum (nonzero (pairs l)) i w ≡ sum l i w
  sum-merge l = sum-nonzero (pairs l) ∙ sum-pairs l

  -- an identifier's sums are those of its own postings
  pub sum-under : (l : List Posting) → sum (under i l) i w ≡ sum l i w
  sum-under l = sum-keep (λ p. eqb p.id i) (λ p n. rw n) l

  -- what takes postings back has their sums negated
  pub sum-negated : (l : List Posting) → sum (negated l) i w ≡ neg_ℤ (sum l i w)
  unfolding negated
  sum-negated l = each (nonzero l) ∙ ap neg_ℤ (sum-nonzero l)
    where
      turned : (t : Bool) (c : ℤ) → cond t (neg_ℤ c) (pos 0) ≡ neg_ℤ (cond t c (pos 0))
      turned true c = refl
      turned false c = refl

      each : (m : List Posting) → sum (map (λ p. counting p (neg_ℤ p.count)) m) i w ≡ neg_ℤ (sum m i w)
      each [] = refl
      each (p ∷ m) =
          rw (turned (eqb p.id i && eqb p.window w) p.count, each m) (sym (neg_ℤ-+ℤ (share p i w) (sum m i w)))
