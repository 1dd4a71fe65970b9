-- `forecasts::follow_window` meets its contract: its open is refused, one of its events is, or it is closed.
use Rattle.lists.proofs.Prelude.{◌≡◌, sym, subst}
use Rattle.forecasts.specs.declared.Sketch.{Sketch}
use Rattle.forecasts.specs.Sketches.{Opened}
use Rattle.forecasts.proofs.Opening.{open_number, open-refused, open-room, window-opened, window-stopped, close-room, window-closed, window-early}
use Rattle.forecasts.proofs.follow_window.Goals as goal

pub returns-in-Err : goal.returns-in-Err
returns-in-Err c =
    let a = c.args in
    (open-refused a.g.now.card a.g.now.register.now a.g.now.used a.g.now.plan.now a.places.now a.q a.from a.to a.window c.requires _ (rw c.in-Err.is at c.judge_open.ensures), tt)

pub opened-requires : goal.opened-requires
opened-requires c =
    let a = c.args in
    let free : 0 ≡ open_number a.g.now.card a.g.now.register.now a.g.now.used a.g.now.plan.now a.places.now a.q a.from a.to a.window c.requires =
    rw c.in_default.is at c.judge_open.ensures in
    open-room a.g.now.card a.g.now.register.now a.g.now.used a.g.now.plan.now a.places.now a.q a.from a.to a.window c.requires free

pub follow_events-t-requires : goal.follow_events-t-requires
follow_events-t-requires c =
    let a = c.args in
    let free : 0 ≡ open_number a.g.now.card a.g.now.register.now a.g.now.used a.g.now.plan.now a.places.now a.q a.from a.to a.window c.requires =
    rw c.in_default.is at c.judge_open.ensures in
    subst (λ (r : Sketch). Opened a.g.now.register.now a.g.now.used a.g.now.plan.now a.places.now r a.from a.to) (sym c.opened.ensures)
    (window-opened a.g.now.card a.g.now.register.now a.g.now.used a.g.now.plan.now a.places.now a.q a.from a.to a.window c.requires free)

pub closed-requires : goal.closed-requires
closed-requires c =
    let a = c.args in
    let free : 0 ≡ open_number a.g.now.card a.g.now.register.now a.g.now.used a.g.now.plan.now a.places.now a.q a.from a.to a.window c.requires =
    rw c.in_default.is at c.judge_open.ensures in
    let f = rw (c.opened.ensures, c.in-None.is) at c.follow_events-t.ensures in
    close-room a.g.now.card a.g.now.register.now a.g.now.used a.g.now.plan.now a.places.now a.q a.from a.to a.window c.requires free c.follow_events-t.result.sketch _ f.0 f.1

pub returns-in-Some : goal.returns-in-Some
returns-in-Some c =
    let a = c.args in
    let free : 0 ≡ open_number a.g.now.card a.g.now.register.now a.g.now.used a.g.now.plan.now a.places.now a.q a.from a.to a.window c.requires =
    rw c.in_default.is at c.judge_open.ensures in
    let f = rw (c.opened.ensures, c.in-Some.is) at c.follow_events-t.ensures in
    rw c.in-Some.is
    (window-stopped a.g.now.card a.g.now.register.now a.g.now.used a.g.now.plan.now a.places.now a.q a.from a.to a.window c.requires free c.follow_events-t.result.sketch _ _ f.0, tt)

pub returns-in-None : goal.returns-in-None
returns-in-None c =
    let a = c.args in
    let free : 0 ≡ open_number a.g.now.card a.g.now.register.now a.g.now.used a.g.now.plan.now a.places.now a.q a.from a.to a.window c.requires =
    rw c.in_default.is at c.judge_open.ensures in
    let f = rw (c.opened.ensures, c.in-None.is) at c.follow_events-t.ensures in
    rw c.closed.ensures (
      window-closed a.g.now.card a.g.now.register.now a.g.now.used a.g.now.plan.now a.places.now a.q a.from a.to a.window c.requires free c.follow_events-t.result.sketch _ f.0 f.1,
      window-early a.g.now.card a.g.now.register.now a.g.now.used a.g.now.plan.now a.places.now a.q a.from a.to a.window c.requires free c.follow_events-t.result.sketch _ f.0 f.1,
    )
