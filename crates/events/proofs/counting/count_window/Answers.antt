use Rattle.lists.proofs.Prelude.{add-one}
use Rattle.events.proofs.counting.count_window.Goals as goal

pub returns : goal.returns
returns c = rw (add-one c.args.w.events)
