-- `forecasts::follow_windows` meets its contract. The loop's invariant: all windows before the place reached are passed, and the plan goes on from there.
use Rattle.forecasts.proofs.Windows.{Far}
use Rattle.forecasts.proofs.follow_windows.Given as goal

abbrev pub invariant-loop-i : goal.invariant-loop-i
invariant-loop-i l = Far l.fn.g.card l.fn.g.register.now l.fn.g.used l.fn.g.plan.now l.fn.counts l.fn.places l.fn.q l.places l.t l.from l.i
