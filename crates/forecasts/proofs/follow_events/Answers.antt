use Rattle.lists.proofs.Prelude.{◌∙◌, arith}
use Rattle.forecasts.proofs.Along.{along-begin, place-fits, along-refused, along-done, along-left, along-end}
use Rattle.forecasts.proofs.follow_events.Goals as goal

pub loop-at-init : goal.loop-at-init
loop-at-init c =
    let a = c.args in
    along-begin a.g.now.card a.g.now.register.now a.g.now.used a.g.now.plan.now a.places.now a.q a.from a.to a.window c.requires

pub count-r-requires : goal.count-r-requires
count-r-requires c =
    let a = c.args in
    let x = c.loop-at.invariant in (
      x.sound,
      omega (arith, c.requires.inside),
      place-fits a.g.now.card a.g.now.register.now a.g.now.used a.g.now.plan.now a.places.now a.q a.from a.to a.window c.loop-at.places c.loop-at.t c.loop-at.at x c.requires.early c.requires.most,
    )

pub returns-in-Err : goal.returns-in-Err
returns-in-Err c =
    let a = c.args in (
      along-refused a.g.now.card a.g.now.register.now a.g.now.used a.g.now.plan.now a.places.now a.q a.from a.to a.window c.loop-at.places c.loop-at.t c.loop-at.at c.loop-at.invariant
          (omega arith) c.requires.inside _ c.count-r.result.sketch _ (rw c.in-Err.is at c.count-r.ensures),
      tt,
    )

pub loop-at-preserved : goal.loop-at-preserved
loop-at-preserved c =
    let a = c.args in
    along-done a.g.now.card a.g.now.register.now a.g.now.used a.g.now.plan.now a.places.now a.q a.from a.to a.window c.loop-at.places c.loop-at.t c.loop-at.at c.loop-at.invariant
    (omega arith) c.requires.inside _ c.count-r.result.sketch c.places-1.given (rw c.in_default.is at c.count-r.ensures)

pub returns : goal.returns
returns c =
    let a = c.args in (
      along-end a.g.now.card a.g.now.register.now a.g.now.used a.g.now.plan.now a.places.now a.q a.from a.to a.window c.loop-at.places c.loop-at.t c.loop-at.at c.loop-at.invariant (omega arith),
      along-left a.g.now.card a.g.now.register.now a.g.now.used a.g.now.plan.now a.places.now a.q a.from a.to a.window c.loop-at.places c.loop-at.t c.loop-at.at c.loop-at.invariant (omega arith),
    )

pub overflow_sub-event : goal.overflow_sub-event
overflow_sub-event c = c.loop-at.invariant.low

pub overflow_add-event : goal.overflow_add-event
overflow_add-event c = omega arith

pub overflow_cast-event : goal.overflow_cast-event
overflow_cast-event c = let x = c.loop-at.invariant in omega (arith, x.events, x.sound.events)

pub shape_of-places-in-Err : goal.shape_of-places-in-Err
shape_of-places-in-Err c =
    c.places-1.given ∙ c.loop-at.invariant.long

pub shape_of-places : goal.shape_of-places
shape_of-places c = c.loop-at.invariant.long
