-- `plans::output_length` meets its contract.
use Rattle.lists.proofs.Prelude.{eq-eqb, ne_eqb}
use Rattle.plans.proofs.output_length.Goals as goal

pub returns-then-t-eq0 : goal.returns-then-t-eq0
returns-then-t-eq0 c = rw (eq-eqb _ _ c.if-t-eq0.true)

pub returns : goal.returns
returns c = rw (ne_eqb _ _ c.if-t-eq0.false)
