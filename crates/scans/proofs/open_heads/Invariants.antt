-- `scans::open_heads` meets its contract. The invariant: the first i heads are those of the first i partitions.
use Rattle.lists.proofs.Prelude.{◌≡◌, length}
use Rattle.keyed.specs.Keys.{topmost_from}
use Rattle.words.specs.Words.{words}
use Rattle.state.specs.Views.{finished}
use Rattle.partitions.specs.Reading.{postings_of}
use Rattle.kway.proofs.Parts.{Opened}
use Rattle.scans.specs.Heads.{ahead, Kept, views}
use Rattle.scans.proofs.open_heads.Given as goal

abbrev pub invariant-loop-i : goal.invariant-loop-i
invariant-loop-i l = record {
  heads : Opened (ahead (words l.card)) (Kept (words l.card)) (postings_of (words l.card)) 10 (length l.initial.heads) (finished l.fn.ps) l.i l.heads;
  top : l.top ≡ topmost_from 0 (views (words l.card) l.i l.heads);
}
