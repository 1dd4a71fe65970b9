use Rattle.lists.proofs.Prelude.{◌-◌}
use Rattle.words.specs.Words.{words}
use Rattle.batches.proofs.Passes.{Passing}
use Rattle.batches.proofs.lists_ok.Given as goal

abbrev pub invariant-loop-s : goal.invariant-loop-s
invariant-loop-s l = Passing (words l.card) l.s l.named l.from l.slots

abbrev pub decreases-loop-s : goal.decreases-loop-s
decreases-loop-s l = l.n - l.from
