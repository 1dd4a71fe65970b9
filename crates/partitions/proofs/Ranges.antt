-- Sums in range.
use Rattle.lists.proofs.Prelude.{true, ◌&&◌, List, [], ◌∷◌, ◌≡◌, ℕ, ◌≤◌, arith, eqb, pos, nat_abs, +ℤ_idl, +ℤ_idr, leb-true, eqb-true, every, by-test, and_left, and_right}
use Rattle.postings.specs.declared.Posting.{Posting}
use Rattle.postings.specs.Order.{precedes, ordered}
use Rattle.postings.specs.Merge.{pairs}
use Rattle.postings.specs.Sums.{sum}
use Rattle.postings.proofs.Order.{any-before}
use Rattle.postings.proofs.Sums.{sum-pairs}
use Rattle.postings.proofs.Merge.{pairs-ordered, sum-none}
use Rattle.partitions.specs.Formed.{in_range, sums_in_range}

-- where every pair's count fits, every sum does
fits_sum : (i w : ℕ) (l : List Posting) → ordered l ≡ true → every (λ p. in_range p.count) l ≡ true → nat_abs (sum l i w) ≤ 32767
fits_sum i w [] o e = omega arith
fits_sum i w (p ∷ l) o e =
    by-test (eqb p.id i && eqb p.window w)
    (λ y. let a : p.id ≡ i = eqb-true _ _ (and_left (eqb p.id i) _ y) in
    let b : p.window ≡ w = eqb-true _ _ (and_right (eqb p.id i) _ y) in
    let z : sum l i w ≡ pos 0 = rw (a, b) at (sum-none p l (any-before p l (and_left (every (precedes p) l) _ o))) in
    rw (y, z, +ℤ_idr p.count) (leb-true _ _ (and_left (in_range p.count) _ e)))
    (λ n. rw (n, +ℤ_idl (sum l i w)) (fits_sum i w l (and_right (every (precedes p) l) _ o) (and_right (in_range p.count) _ e)))

-- so where sums are judged to be in range, each one fits
pub sums-fit : (i w : ℕ) (l : List Posting) → sums_in_range l ≡ true → nat_abs (sum l i w) ≤ 32767
unfolding sums_in_range
sums-fit i w l e = rw (← sum-pairs i w l) (fits_sum i w (pairs l) (pairs-ordered l) e)
