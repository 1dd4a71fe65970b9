-- `partitions::partitions_ok` meets its contract. The invariant: the answer for all is the answer for those from the next on, with the marks of the others.
use Rattle.lists.proofs.Prelude.{◌≡◌, drop}
use Rattle.words.specs.Words.{words}
use Rattle.state.specs.Views.{finished}
use Rattle.partitions.specs.Formed.{partitions_formed}
use Rattle.partitions.proofs.Apart.{formed}
use Rattle.partitions.proofs.partitions_ok.Given as goal

abbrev pub invariant-loop-p : goal.invariant-loop-p
invariant-loop-p l = partitions_formed (words l.card) l.blocks (finished l.fn.ps) ≡ formed (words l.card) l.blocks l.marks (drop l.p-index (finished l.fn.ps))
