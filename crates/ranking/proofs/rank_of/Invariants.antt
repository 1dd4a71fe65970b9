use Rattle.lists.proofs.Prelude.{◌≡◌, ◌+◌, drop}
use Rattle.ranking.specs.Top.{rank, listed_hits}
use Rattle.ranking.proofs.rank_of.Given as goal

abbrev pub invariant-loop-i : goal.invariant-loop-i
invariant-loop-i l = rank l.g (listed_hits l.t) ≡ l.i + rank l.g (drop l.i (listed_hits l.t))
