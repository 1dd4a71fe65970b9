-- `registers::sorted_apart` meets its contract. The loop's invariant: both arrays hold places.
use Rattle.lists.proofs.Prelude.{◌-◌, ◌≤◌}
use Rattle.words.specs.Words.{Below}
use Rattle.registers.proofs.sorted_apart.Given as goal

abbrev pub invariant-loop-width : goal.invariant-loop-width
invariant-loop-width l = (1 ≤ l.width) × Below l.n l.order × Below l.n l.ranks

abbrev pub decreases-loop-width : goal.decreases-loop-width
decreases-loop-width l = l.n - l.width
