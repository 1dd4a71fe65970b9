-- `card::is_marked` meets its contract: a shift and a mask of one bit are a quotient and a remainder.
use lib.Bits.{and_mask}
use Rattle.card.specs.Marks.{marked}
use Rattle.card.proofs.is_marked.Goals as goal

pub returns : goal.returns
unfolding marked
returns c = rw (and_mask _ 1)
