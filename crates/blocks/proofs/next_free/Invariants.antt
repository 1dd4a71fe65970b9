-- `blocks::next_free` meets its contract. The invariant: the free blocks are those in the places from i on.
use Rattle.lists.proofs.Prelude.{◌≡◌, drop, keep}
use Rattle.words.specs.Words.{words}
use Rattle.card.specs.Blocks.{is_free, after_taken, free_blocks}
use Rattle.blocks.proofs.next_free.Given as goal

abbrev pub invariant-loop-i : goal.invariant-loop-i
invariant-loop-i l = free_blocks (words l.card) l.blocks l.taken ≡ keep (is_free (words l.card)) (drop l.i (after_taken l.blocks l.taken))
