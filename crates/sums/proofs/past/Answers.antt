use Rattle.lists.proofs.Prelude.{eq-eqb, ne_eqb}
use Rattle.sums.proofs.past.Goals as goal

pub returns-then-f-top : goal.returns-then-f-top
returns-then-f-top c = rw (eq-eqb _ _ c.if-f-top.true)

pub returns-else-f-top : goal.returns-else-f-top
returns-else-f-top c = rw (ne_eqb _ _ c.if-f-top.false)
