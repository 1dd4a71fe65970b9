-- `averages::divide` meets its contract.
use Rattle.lists.proofs.Prelude.{sym, ◌∙◌, arith, eq-eqb, ne_eqb}
use Rattle.answers.specs.Answers.{refuse_if}
use Rattle.averages.specs.Average.{averaging}
use Rattle.averages.proofs.Division.{left_below, mean-most}
use Rattle.averages.proofs.divide.Goals as goal

pub returns-then-bad_length : goal.returns-then-bad_length
unfolding averaging refuse_if
returns-then-bad_length c = rw (sym c.bad_length.ensures ∙ c.if-bad_length.true)

pub returns-then-windows-eq0 : goal.returns-then-windows-eq0
unfolding averaging refuse_if
returns-then-windows-eq0 c = rw (sym c.bad_length.ensures ∙ c.if-bad_length.false, eq-eqb _ _ c.if-windows-eq0.true)

pub overflow_cast-result : goal.overflow_cast-result
overflow_cast-result c = omega (arith, mean-most c.args.total c.args.windows 32767 c.requires.1)

pub overflow_cast-result-2 : goal.overflow_cast-result-2
overflow_cast-result-2 c = omega (arith, left_below c.args.total c.args.windows (omega arith), c.requires.0)

pub returns : goal.returns
unfolding averaging refuse_if
returns c = rw (sym c.bad_length.ensures ∙ c.if-bad_length.false, ne_eqb _ _ c.if-windows-eq0.false)
