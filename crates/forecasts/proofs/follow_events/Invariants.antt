-- `forecasts::follow_events` meets its contract. The loop's invariant: all events before the place reached are done, and the plan goes on from there.
use Rattle.forecasts.proofs.Along.{Along}
use Rattle.forecasts.proofs.follow_events.Given as goal

abbrev pub invariant-loop-at : goal.invariant-loop-at
invariant-loop-at l = Along l.fn.g.card l.fn.g.register.now l.fn.g.used l.fn.g.plan.now l.fn.places l.fn.q l.fn.from l.fn.to l.fn.window l.places l.t l.at
