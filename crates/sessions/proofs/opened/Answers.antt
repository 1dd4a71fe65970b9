-- `sessions::opened` meets its contract.
use Rattle.sessions.proofs.Carried.{on-state, written}
use Rattle.engine.specs.Calls.{probe_call}
use Rattle.sessions.proofs.opened.Goals as goal

pub returns : goal.returns
unfolding probe_call
returns c = λ card register. written (on-state card register c.open-r.ensures) c.write_opened.ensures
