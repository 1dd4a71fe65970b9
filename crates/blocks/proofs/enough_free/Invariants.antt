-- `blocks::enough_free` meets its contract. The invariant: enough are free where what is missing is free in the places from i on.
use Rattle.lists.proofs.Prelude.{◌≡◌, leb, length, drop, keep}
use Rattle.words.specs.Words.{words}
use Rattle.card.specs.Blocks.{is_free, after_taken, free_blocks}
use Rattle.blocks.proofs.enough_free.Given as goal

abbrev pub invariant-loop-i : goal.invariant-loop-i
invariant-loop-i l =
    leb l.wanted (length (free_blocks (words l.card) l.blocks l.taken)) ≡ leb l.missing (length (keep (is_free (words l.card)) (drop l.i (after_taken l.blocks l.taken))))
