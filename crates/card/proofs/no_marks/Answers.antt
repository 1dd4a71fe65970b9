-- `card::no_marks` meets its contract: no bit of a zero is set.
use Rattle.card.specs.Marks.{marked}
use Rattle.card.proofs.Marking.{bits_none}
use Rattle.card.proofs.no_marks.Goals as goal

pub returns : goal.returns
unfolding marked
returns c = λ b. bits_none 64 64 b
