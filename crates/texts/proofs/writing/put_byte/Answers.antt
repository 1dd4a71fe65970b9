-- `texts::writing::put_byte` meets its contract.
use Rattle.texts.proofs.Appending.{wrote-byte}
use Rattle.texts.proofs.writing.put_byte.Goals as goal

pub returns : goal.returns
returns c = wrote-byte _ _ _ c.requires
