use Rattle.lists.proofs.Prelude.{length}
use Rattle.words.specs.Words.{words}
use Rattle.sums.proofs.Tally.{tally_of, groups}
use Rattle.sums.proofs.Walking.{Going}
use Rattle.sums.proofs.walk.Given as goal

abbrev pub invariant-loop-at : goal.invariant-loop-at
invariant-loop-at l =
    Going (words l.card) l.n l.b l.windows (length l.initial.heads) (λ v. tally_of v (groups (words l.card) l.n l.initial.heads l.b 0)) l.heads l.at l.next l.bound l.slots

abbrev pub decreases-loop-at : goal.decreases-loop-at
decreases-loop-at l = l.bound
