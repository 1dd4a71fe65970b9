-- `outputs::rest_free` meets its contract. The invariant: the answer is that for the words still to come.
use Rattle.lists.proofs.Prelude.{◌≡◌, eqb, every}
use Rattle.words.specs.Words.{words, all_ones}
use Rattle.card.specs.Cursors.{Good, ahead}
use Rattle.outputs.proofs.rest_free.Given as goal

abbrev pub invariant-loop-at : goal.invariant-loop-at
invariant-loop-at l = Good (words l.card) l.at × (every (eqb all_ones) (ahead (words l.card) l.initial.at) ≡ every (eqb all_ones) (ahead (words l.card) l.at))

abbrev pub decreases-loop-at : goal.decreases-loop-at
decreases-loop-at l = l.at.left
