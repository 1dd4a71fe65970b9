-- `partitions::entries_ok` meets its contract. The invariant: the answer for all entries is the answer resumed at the entry that comes next. A first
-- index is of 32 bits and equals the sum before it, so that the sum stays small.
use Rattle.lists.proofs.Prelude.{◌≡◌, ◌%◌, ◌≤◌}
use Rattle.words.specs.Words.{words}
use Rattle.card.specs.Cursors.{ahead, Good}
use Rattle.partitions.proofs.Listed.{resumed}
use Rattle.partitions.proofs.entries_ok.Given as goal

abbrev pub invariant-loop-e : goal.invariant-loop-e
invariant-loop-e l =
    (l.e.left % 3 ≡ 0) × (l.next ≤ 1024) × (l.sum ≤ 8589934592) × Good (words l.card) l.e
    × (resumed l.count 0 0 (ahead (words l.card) l.initial.e) ≡ resumed l.count l.next l.sum (ahead (words l.card) l.e))

abbrev pub decreases-loop-e : goal.decreases-loop-e
decreases-loop-e l = l.e.left
