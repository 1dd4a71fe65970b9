use Rattle.registers.specs.Order.{Ascending}
use Rattle.registers.proofs.ascending.Given as goal

abbrev pub invariant-loop-k : goal.invariant-loop-k
invariant-loop-k l = Ascending l.register l.order l.k
