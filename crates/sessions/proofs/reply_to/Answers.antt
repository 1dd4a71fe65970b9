-- `sessions::reply_to` meets its contract: by cases, what the call promises.
use Rattle.sessions.proofs.Carried.{on-state, on_store}
use Rattle.identifiers.proofs.Lent.{lent_at}
use Rattle.engine.specs.Calls.{probe_call}
use Rattle.sessions.proofs.reply_to.Goals as goal

pub bounds-parts-1 : goal.bounds-parts-1
bounds-parts-1 c = rw c.in-Event.is at c.requires

pub returns-in-Event : goal.returns-in-Event
unfolding probe_call
returns-in-Event c = rw (c.in-Event.is, lent_at c.args.parts.now 1) c.event.ensures

pub returns-in-Close : goal.returns-in-Close
unfolding probe_call
returns-in-Close c = rw c.in-Close.is (on-state _ _ c.close.ensures)

pub returns-in-Remove : goal.returns-in-Remove
unfolding probe_call
returns-in-Remove c = rw c.in-Remove.is (on_store _ c.remove.ensures)

pub returns-in-Flush : goal.returns-in-Flush
unfolding probe_call
returns-in-Flush c = rw c.in-Flush.is (on_store _ c.flush.ensures)

pub returns-in-Step : goal.returns-in-Step
unfolding probe_call
returns-in-Step c = rw c.in-Step.is (on_store _ c.step.ensures)
