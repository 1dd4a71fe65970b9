use Rattle.lists.proofs.Prelude.{arith, rules}
use Rattle.sums.proofs.Slots.{cleared_more}
use Rattle.sums.proofs.clear.Goals as goal

pub loop-i-init : goal.loop-i-init
loop-i-init c = record { long = search rules; none = λ j h. absurd (omega arith) }

pub loop-i-preserved : goal.loop-i-preserved
loop-i-preserved c = cleared_more _ _ _ (search rules) c.loop-i.invariant
