-- `census::count_parts` meets its contract. The invariant: the windows of the stretch below `from` are counted.
use Rattle.lists.proofs.Prelude.{◌++◌, ◌≡◌, ◌-◌, ◌≤◌, length}
use Rattle.words.specs.Words.{words}
use Rattle.state.specs.Views.{buffered, finished}
use Rattle.partitions.specs.Reading.{in_partitions}
use Rattle.census.proofs.Parts.{so_far}
use Rattle.census.proofs.count_parts.Given as goal

abbrev pub invariant-loop-more : goal.invariant-loop-more
invariant-loop-more l =
    (1 ≤ l.from) × (l.t.first ≤ l.from) × (length l.heads ≡ 510) × (length l.marks ≡ l.n) × (l.windows ≡ so_far l.t l.v (in_partitions (words l.card) (finished l.ps) ++ buffered l.b) l.from)

abbrev pub decreases-loop-more : goal.decreases-loop-more
decreases-loop-more l = 65536 - l.from
