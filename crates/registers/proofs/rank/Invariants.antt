use Rattle.words.specs.Words.{Below}
use Rattle.registers.proofs.rank.Given as goal

abbrev pub invariant-loop-k : goal.invariant-loop-k
invariant-loop-k l = Below l.n l.ranks
