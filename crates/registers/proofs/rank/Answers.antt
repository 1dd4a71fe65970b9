use Rattle.lists.proofs.Prelude.{arith, get_or}
use Rattle.registers.proofs.Sorted.{below_set}
use Rattle.registers.proofs.rank.Goals as goal

pub loop-k-preserved : goal.loop-k-preserved
loop-k-preserved c = let l = c.loop-k in below_set c.args.n l.ranks (get_or c.args.order.now l.k 0) l.k l.invariant (omega arith)
