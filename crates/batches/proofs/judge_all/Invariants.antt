use Rattle.lists.proofs.Prelude.{◌-◌}
use Rattle.batches.proofs.Chain.{counts_at}
use Rattle.batches.proofs.Held.{Holding}
use Rattle.batches.proofs.Judging.{Going}
use Rattle.batches.proofs.judge_all.Given as goal

abbrev pub invariant-loop-i : goal.invariant-loop-i
invariant-loop-i l = Going l.fn.s l.fn.card l.fn.named l.i l.flushed l.v l.b × Holding (counts_at l.fn.s l.fn.card) l.fn.named l.i l.slots
