-- `blocks::release_block` meets its contract. The invariant: storing what is left of 1,024 words of all ones gives the freed block.
use Rattle.lists.proofs.Prelude.{[], ◌∷◌, ◌≡◌, ◌+◌, ◌-◌, ◌*◌, sets}
use Rattle.words.specs.Words.{words}
use Rattle.blocks.specs.Writes.{release}
use Rattle.blocks.proofs.Releasing.{ones}
use Rattle.blocks.proofs.release_block.Given as goal

abbrev pub invariant-loop-i : goal.invariant-loop-i
invariant-loop-i l = release (words l.initial.card) (l.block ∷ []) ≡ sets (words l.card) (1024 * l.block + l.i) (ones (1024 - l.i))
