use Rattle.lists.proofs.Prelude.{sym, arith}
use Rattle.registers.proofs.all_different.Goals as goal

pub returns-then-chained_apart : goal.returns-then-chained_apart
returns-then-chained_apart c = sym (c.chained_apart.ensures.0 c.if-chained_apart.true)

pub returns-then-sorted_apart : goal.returns-then-sorted_apart
returns-then-sorted_apart c = sym (c.sorted_apart.ensures c.if-sorted_apart.true)

pub returns : goal.returns
returns c = c.chained_apart-2.ensures.1 (omega arith)
