-- `census::walk` meets its contract: the invariant's turns are those of `Walking`.
use Rattle.lists.proofs.Prelude.{length, every}
use Rattle.words.specs.Words.{words}
use Rattle.partitions.specs.Formed.{list_rule}
use Rattle.sums.specs.Tally.{counts_of, is_live}
use Rattle.census.specs.Walks.{lists, held}
use Rattle.census.proofs.Walking.{Going}
use Rattle.census.proofs.walk.Given as goal

abbrev pub invariant-loop-at : goal.invariant-loop-at
invariant-loop-at l =
    Going (words l.card) l.n l.b l.t l.v.current (every list_rule (lists (words l.card) l.n l.initial.heads)) (λ w. is_live (counts_of w (held (words l.card) l.n l.initial.heads l.b))) (length l.initial.heads) (length l.initial.marks) l.heads l.at l.next l.lead l.others l.bound l.marks l.windows

abbrev pub decreases-loop-at : goal.decreases-loop-at
decreases-loop-at l = l.bound
