-- `inputs::tally` meets its contract: a sum of 0, and another.
use Rattle.lists.proofs.Prelude.{◌≡◌, sym, ◌∙◌, true, false}
use Rattle.postings.specs.Merge.{is_zero}
use Rattle.inputs.specs.Judging.{totals_more, counts_more}
use Rattle.inputs.proofs.tally.Goals as goal

pub returns-then-is_zero : goal.returns-then-is_zero
unfolding totals_more counts_more
returns-then-is_zero c = let e : is_zero c.args.p.count ≡ true = sym c.is_zero.ensures ∙ c.if-is_zero.true in (rw e, rw e)

pub returns : goal.returns
unfolding totals_more counts_more
returns c =
    let e : is_zero c.args.p.count ≡ false = sym c.is_zero.ensures ∙ c.if-is_zero.false in
    (rw (e, c.risen.ensures, c.min.ensures, c.max.ensures), rw e)
