use Rattle.lists.proofs.Prelude.{arith}
use Rattle.registers.proofs.Sorted.{below_set}
use Rattle.registers.proofs.fill.Goals as goal

pub loop-i-preserved : goal.loop-i-preserved
loop-i-preserved c = let l = c.loop-i in below_set c.args.n l.order l.i l.i l.invariant (omega arith)
