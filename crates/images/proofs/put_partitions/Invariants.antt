-- `images::put_partitions` meets its contract. The invariant: storing the parts that are left gives the whole.
use Rattle.lists.proofs.Prelude.{◌≡◌, length}
use Rattle.words.specs.Words.{words}
use Rattle.images.specs.Images.{record_words}
use Rattle.lists.proofs.Stores.{Parts}
use Rattle.images.proofs.put_partitions.Given as goal

abbrev pub invariant-loop-i : goal.invariant-loop-i
invariant-loop-i l = (length l.image ≡ 2864) × Parts record_words 5 457 (words l.initial.image) l.ps.records (words l.image) l.i
