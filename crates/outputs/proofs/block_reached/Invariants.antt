-- `outputs::block_reached` meets its contract. The invariant: whole blocks were passed over, and the other words are still to go.
use Rattle.lists.proofs.Prelude.{◌-◌, ◌*◌}
use Rattle.words.specs.Words.{words}
use Rattle.outputs.proofs.Places.{Going}
use Rattle.outputs.proofs.block_reached.Given as goal

abbrev pub invariant-loop : goal.invariant-loop
invariant-loop l = Going (words l.card) l.first l.n l.count (l.count - 1023 * l.counter) l.block
