-- `sessions::lines::answer` meets its contract.
use Rattle.lists.proofs.Prelude.{arith}
use Rattle.sessions.proofs.Taking.{answered}
use Rattle.sessions.proofs.lines.answer.Goals as goal

pub overflow_add-d : goal.overflow_add-d
overflow_add-d c = omega (arith, c.obey-d.ensures.says.fits)

pub returns : goal.returns
returns c = answered _ _ (omega arith) c.obey-d.ensures
