-- `outputs::write_postings` meets its contract. The invariant: storing the words of the postings that are left gives the whole array.
use Rattle.lists.proofs.Prelude.{map, ◌≡◌, take, drop, sets}
use Rattle.partitions.specs.Layout.{word_of}
use Rattle.outputs.proofs.write_postings.Given as goal

abbrev pub invariant-loop-i : goal.invariant-loop-i
invariant-loop-i l = sets l.initial.content 0 (map word_of (take l.used l.postings)) ≡ sets l.content l.i (drop l.i (map word_of (take l.used l.postings)))
