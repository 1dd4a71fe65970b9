-- Totals pair by pair are the totals of all pairs.
use Rattle.lists.proofs.Prelude.{true, cond, List, [], ◌∷◌, ◌++◌, append-nil, append_assoc, ◌≡◌, sym, ap, ◌∙◌, ◌≤◌, length-append, every, by-test, and_left, and_right, keep_append}
use Rattle.postings.specs.declared.Posting.{Posting}
use Rattle.postings.specs.Merge.{is_zero, is_counted, nonzero}
use Rattle.postings.specs.Spans.{lowest, highest}
use Rattle.postings.proofs.Spans.{lowest-more, highest-more}
use Rattle.partitions.proofs.Counts.{numbers_more, numbers-none, terms-more}
use Rattle.scans.specs.Keys.{is_keyed}
use Rattle.scans.proofs.Keys.{bounds}
use Rattle.inputs.specs.Judging.{Tally, totals_of, counts_by_id, totals_more, counts_more, tally_of, tallied, untold}

-- ---- a pair more

nonzero-more : (l : List Posting) (p : Posting) → nonzero (l ++ (p ∷ [])) ≡ nonzero l ++ cond (is_counted p) (p ∷ []) []
unfolding nonzero
nonzero-more l p = keep_append is_counted l (p ∷ [])

-- what is told of all pairs of a list
abbrev pub told_of : List Posting → Tally
told_of l = record { totals = totals_of l; counts = counts_by_id l }

tally-more : (l : List Posting) (p : Posting) → p.id ≤ 1023 → p.window ≤ 65535 → told_of (l ++ (p ∷ [])) ≡ tally_of (told_of l) p
unfolding totals_of counts_by_id totals_more counts_more
tally-more l p h w =
    let e = length-append l (p ∷ []) in
    by-test (is_zero p.count)
    (λ y. let q : nonzero (l ++ (p ∷ [])) ≡ nonzero l = nonzero-more l p ∙ rw y (append-nil (nonzero l)) in
    rw (y, e, q))
    (λ n. let q : nonzero (l ++ (p ∷ [])) ≡ nonzero l ++ (p ∷ []) = nonzero-more l p ∙ rw n in
    rw (n, e, q, length-append (nonzero l) (p ∷ []), terms-more (nonzero l) p h, numbers_more (nonzero l) p h, lowest-more (nonzero l) p w, highest-more (nonzero l) p))

-- ---- all pairs

tallied-from : (d l : List Posting) → every is_keyed l ≡ true → tallied (told_of d) l ≡ told_of (d ++ l)
unfolding tallied
tallied-from d [] e = ap told_of (sym (append-nil d))
tallied-from d (p ∷ l) e =
    let k = bounds p (and_left (is_keyed p) _ e) in
    ap (λ (t : Tally). tallied t l) (sym (tally-more d p k.id k.window))
    ∙ tallied-from (d ++ (p ∷ [])) l (and_right (is_keyed p) _ e)
    ∙ ap told_of (append_assoc d (p ∷ []) l)

told_none : told_of [] ≡ untold
unfolding totals_of counts_by_id nonzero lowest highest
told_none = rw numbers-none

pub tallied-all : (l : List Posting) → every is_keyed l ≡ true → tallied untold l ≡ told_of l
tallied-all l e = ap (λ (t : Tally). tallied t l) (sym told_none) ∙ tallied-from [] l e
