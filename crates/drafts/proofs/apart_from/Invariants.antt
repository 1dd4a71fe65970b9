-- `drafts::apart_from` meets its contract. The invariant: that all blocks are apart from the marks given is that those of the partitions from the next on
-- are apart from the marks so far.
use Rattle.lists.proofs.Prelude.{◌≡◌, drop}
use Rattle.words.specs.Words.{words}
use Rattle.state.specs.Views.{finished}
use Rattle.card.specs.Marks.{unmarked}
use Rattle.partitions.specs.Formed.{chains_of}
use Rattle.drafts.proofs.apart_from.Given as goal

abbrev pub invariant-loop-p : goal.invariant-loop-p
invariant-loop-p l = unmarked l.initial.m (chains_of (words l.card) (finished l.fn.ps)) ≡ unmarked l.m (chains_of (words l.card) (drop l.p-index (finished l.fn.ps)))
