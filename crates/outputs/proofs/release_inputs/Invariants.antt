-- `outputs::release_inputs` meets its contract. The invariant: freeing the blocks of the partitions from the next on gives the whole; they are different
-- blocks of the card.
use Rattle.words.specs.Words.{words}
use Rattle.state.specs.Views.{finished}
use Rattle.outputs.proofs.Freeing.{Freeing}
use Rattle.outputs.proofs.release_inputs.Given as goal

abbrev pub invariant-loop-p : goal.invariant-loop-p
invariant-loop-p l = Freeing (words l.initial.card) (finished l.fn.ps) (words l.card) l.p-index
