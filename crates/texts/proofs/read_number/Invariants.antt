-- `texts::read_number` meets its contract: the number of the whole field is that of what is left after the digits read.
use Rattle.texts.proofs.Reading.{Reading}
use Rattle.texts.proofs.read_number.Given as goal

abbrev pub invariant-loop-b : goal.invariant-loop-b
invariant-loop-b l = Reading l.field l.n l.b-index
