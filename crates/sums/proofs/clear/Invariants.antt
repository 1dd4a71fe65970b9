use Rattle.sums.proofs.Slots.{ClearedTo}
use Rattle.sums.proofs.clear.Given as goal

abbrev pub invariant-loop-i : goal.invariant-loop-i
invariant-loop-i l = ClearedTo l.n l.i l.slots
