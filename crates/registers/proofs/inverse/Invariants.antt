use Rattle.registers.specs.Order.{Inverse}
use Rattle.registers.proofs.inverse.Given as goal

abbrev pub invariant-loop-p : goal.invariant-loop-p
invariant-loop-p l = Inverse l.order l.ranks l.p
