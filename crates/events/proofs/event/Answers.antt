use Rattle.windows.specs.Promises.{probe_of}
use Rattle.events.proofs.Verdicts.{event-refused}
use Rattle.events.proofs.event.Goals as goal

pub count-requires : goal.count-requires
count-requires c =
    rw c.in-Ok.is at c.judge_event.ensures

pub returns-in-Err : goal.returns-in-Err
returns-in-Err c =
    let a = c.args in
    rw c.refuse.ensures
    (event-refused (probe_of a.s a.card.now a.register.now) a.id.now _ (rw c.in-Err.is at c.judge_event.ensures))

pub returns-in-Ok : goal.returns-in-Ok
returns-in-Ok c = c.count.ensures
