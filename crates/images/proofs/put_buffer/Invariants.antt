-- `images::put_buffer` meets its contract. The invariant: storing the parts that are left gives the whole.
use Rattle.lists.proofs.Prelude.{◌≡◌, length}
use Rattle.words.specs.Words.{words}
use Rattle.images.specs.Images.{posting_words}
use Rattle.lists.proofs.Stores.{Parts}
use Rattle.images.proofs.put_buffer.Given as goal

abbrev pub invariant-loop-i : goal.invariant-loop-i
invariant-loop-i l = (length l.image ≡ 2864) × Parts posting_words 3 72 (words l.initial.image) l.b.postings (words l.image) l.i
