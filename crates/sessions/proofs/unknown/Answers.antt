-- `sessions::unknown` meets its contract.
use Rattle.lists.proofs.Prelude.{refl}
use Rattle.sessions.specs.Answering.{text_of, left_of}
use Rattle.sessions.proofs.unknown.Goals as goal

pub returns : goal.returns
unfolding text_of left_of
returns c = λ card register. record { says = c.write_unknown.ensures; left = refl }
