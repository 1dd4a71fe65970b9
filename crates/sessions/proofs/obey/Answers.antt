-- `sessions::obey` meets its contract.
use Rattle.lists.proofs.Prelude.{sym, ap, arith, length-take-le}
use Rattle.commands.specs.Commands.{call_in}
use Rattle.sessions.proofs.Carried.{obeys-as}
use Rattle.sessions.proofs.obey.Goals as goal

pub slice_bounds-obey_fields-end : goal.slice_bounds-obey_fields-end
slice_bounds-obey_fields-end c = sym (length-take-le _ _ (omega (arith, c.split-n.ensures)))

pub returns : goal.returns
returns c = obeys-as (ap call_in (sym c.split-n.ensures.0)) c.obey_fields.ensures
