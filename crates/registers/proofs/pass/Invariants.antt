use Rattle.lists.proofs.Prelude.{◌-◌, ◌≤◌}
use Rattle.words.specs.Words.{Below}
use Rattle.registers.proofs.pass.Given as goal

abbrev pub invariant-loop-low : goal.invariant-loop-low
invariant-loop-low l = (l.low ≤ l.n) × Below l.n l.to

abbrev pub decreases-loop-low : goal.decreases-loop-low
decreases-loop-low l = l.n - l.low
