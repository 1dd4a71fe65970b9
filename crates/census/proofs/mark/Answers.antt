-- `census::mark` meets its contract: one bit is set in one number, and a shift and a mask of one bit tell whether it was.
use lib.Bits.{and_mask}
use Rattle.lists.proofs.Prelude.{◌%◌, arith, length-set, eq-eqb, ne_eqb}
use Rattle.card.proofs.Marking.{bits-set, one_at}
use Rattle.census.proofs.mark.Goals as goal

pub returns-then-number-at-eq1 : goal.returns-then-number-at-eq1
returns-then-number-at-eq1 c =
    let was = rw (and_mask _ 1) at c.if-number-at-eq1.true in (
      simp length-set,
      λ k. rw (one_at (c.args.at % 32) 32 (omega arith)) (bits-set 32 c.args.marks.now c.args.at k (omega arith)),
      rw (eq-eqb _ _ was),
    )

pub returns-else-number-at-eq1 : goal.returns-else-number-at-eq1
returns-else-number-at-eq1 c =
    let was = rw (and_mask _ 1) at c.if-number-at-eq1.false in (
      simp length-set,
      λ k. rw (one_at (c.args.at % 32) 32 (omega arith)) (bits-set 32 c.args.marks.now c.args.at k (omega arith)),
      rw (ne_eqb _ _ was),
    )
