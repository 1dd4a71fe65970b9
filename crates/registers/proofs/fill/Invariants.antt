use Rattle.words.specs.Words.{Below}
use Rattle.registers.proofs.fill.Given as goal

abbrev pub invariant-loop-i : goal.invariant-loop-i
invariant-loop-i l = Below l.n l.order
