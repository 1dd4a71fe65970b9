use Rattle.lists.proofs.Prelude.{◌+◌, ◌≤◌}
use Rattle.words.specs.Words.{Below}
use Rattle.registers.proofs.merge.Given as goal

abbrev pub invariant-loop-k : goal.invariant-loop-k
invariant-loop-k l = record {
  from_mid : l.mid ≤ l.j;
  to_high : l.j ≤ l.high;
  ahead : l.k ≤ l.j;
  near : l.j ≤ l.k + l.mid;
  below : Below l.n l.to;
}
