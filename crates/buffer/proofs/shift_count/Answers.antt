use Rattle.lists.proofs.Prelude.{false, List, ◌≡◌, sym, ap, ◌∙◌, ℕ, ◌<◌, ◌≤◌, rules, ℤ, nat_abs, ◌+ℤ◌, get_or, take, set, get_or-take, by-test}
use mir.Syntax.{w16, w32}
use mir.Val.{SFits, to_z, of_z}
use mir.Facts.{to_z-of_z, sfits_widen}
use Rattle.lists.proofs.Sizes.{small-fits}
use Rattle.postings.specs.declared.Posting.{Posting}
use Rattle.postings.specs.Merge.{counting, is_zero}
use Rattle.postings.proofs.Sums.{is-zero}
use Rattle.state.specs.Views.{buffer_of, no_posting}
use Rattle.buffer.specs.Places.{dropped_at, posting_at, moved_at}
use Rattle.buffer.proofs.shift_count.Goals as goal

-- what the first u places of xs hold at k moves by a, in 32 bits: r
module _ (xs : List Posting) (u k : ℕ) (a r : ℤ) (h : k < u) (fa : SFits w16 a) (fc : SFits w16 (get_or xs k no_posting).count)
    (e : r ≡ to_z w16 (of_z w16 a) +ℤ to_z w16 (of_z w16 (get_or xs k no_posting).count))
    (s : nat_abs (a +ℤ (posting_at k (take u xs)).count) ≤ 32767) where
  sum_is : r ≡ a +ℤ (posting_at k (take u xs)).count
  sum_is = e ∙ rw (to_z-of_z fa, to_z-of_z fc, get_or-take u xs k no_posting h)

  narrow : SFits w16 r
  narrow = rw sum_is (small-fits (a +ℤ (posting_at k (take u xs)).count) s)

  wide : to_z w32 (of_z w32 r) ≡ r
  wide = to_z-of_z (sfits_widen {w' = w32} tt narrow)

  -- the sum goes back to 16 bits
  fits : SFits w16 (to_z w32 (of_z w32 r))
  fits = rw wide narrow

  -- a sum of 0 drops the posting
  to_none : of_z w32 r ≡ 0 → dropped_at k (take u xs) ≡ moved_at k a (take u xs)
  unfolding moved_at
  to_none z = rw (ap is_zero (sym sum_is ∙ sym wide ∙ ap (to_z w32) z))

  -- any other sum is the new count
  to-other : (of_z w32 r ≡ 0 → ⊥) → set (take u xs) k (counting (get_or xs k no_posting) (to_z w16 (of_z w16 (to_z w32 (of_z w32 r))))) ≡ moved_at k a (take u xs)
  unfolding moved_at
  to-other n =
      let z = a +ℤ (posting_at k (take u xs)).count in
      let t : is_zero z ≡ false = by-test (is_zero z) (λ y. absurd (n (ap (of_z w32) (sum_is ∙ is-zero z y)))) (λ m. m) in
      rw (wide, to_z-of_z narrow, ← get_or-take u xs k no_posting h, t, sum_is)

pub returns-then-sum-eq0 : goal.returns-then-sum-eq0
returns-then-sum-eq0 c =
    let b = c.args.b in
    let t = c.total-sum in
    let f : SFits w16 (get_or b.postings c.args.k no_posting).count = search rules in
    c.remove.ensures ∙ ap buffer_of (to_none b.postings b.used c.args.k c.args.amount t.result c.requires.1 c.ranges.amount f t.ensures c.requires.2 c.if-sum-eq0.true)

pub overflow_cast-p : goal.overflow_cast-p
overflow_cast-p c =
    let b = c.args.b in
    let t = c.total-sum in
    let f : SFits w16 (get_or b.postings c.args.k no_posting).count = search rules in
    fits b.postings b.used c.args.k c.args.amount t.result c.requires.1 c.ranges.amount f t.ensures c.requires.2

pub returns : goal.returns
returns c =
    let b = c.args.b in
    let t = c.total-sum in
    let f : SFits w16 (get_or b.postings c.args.k no_posting).count = search rules in
    c.replace.ensures ∙ ap buffer_of (to-other b.postings b.used c.args.k c.args.amount t.result c.requires.1 c.ranges.amount f t.ensures c.requires.2 c.if-sum-eq0.false)
