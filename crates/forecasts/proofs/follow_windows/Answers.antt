use Rattle.lists.proofs.Prelude.{◌∙◌, arith}
use Rattle.identifiers.proofs.Entries.{length-entries}
use Rattle.forecasts.proofs.Windows.{far-begin, inside, window-ready, far-stopped, far-on, far-end}
use Rattle.forecasts.proofs.follow_windows.Goals as goal

pub loop-i-init : goal.loop-i-init
loop-i-init c =
    let a = c.args in
    far-begin a.g.now.card a.g.now.register.now a.g.now.used a.g.now.plan.now a.counts.now a.places.now a.q c.requires.0

pub overflow_add-to : goal.overflow_add-to
overflow_add-to c =
    let a = c.args in
    omega (
      arith,
      inside a.g.now.card a.g.now.register.now a.g.now.used a.g.now.plan.now a.counts.now a.places.now a.q c.loop-i.places c.loop-i.t c.loop-i.from c.loop-i.i c.loop-i.invariant c.requires.1 (omega arith),
      length-entries a.g.now.plan.now,
    )

pub follow_window-r-requires : goal.follow_window-r-requires
follow_window-r-requires c =
    let a = c.args in
    window-ready a.g.now.card a.g.now.register.now a.g.now.used a.g.now.plan.now a.counts.now a.places.now a.q c.loop-i.places c.loop-i.t c.loop-i.from c.loop-i.i c.loop-i.invariant c.requires.1 (omega arith) a.g.now.lent

pub shape_of-places-in-Some : goal.shape_of-places-in-Some
shape_of-places-in-Some c =
    c.places-1.given ∙ c.loop-i.invariant.long

pub returns-in-Some : goal.returns-in-Some
returns-in-Some c =
    let a = c.args in
    rw c.in-Some.is
    (far-stopped a.g.now.card a.g.now.register.now a.g.now.used a.g.now.plan.now a.counts.now a.places.now a.q c.loop-i.places c.loop-i.t c.loop-i.from c.loop-i.i c.loop-i.invariant c.requires.1 (omega arith)
    c.follow_window-r.result.sketch _ _ (rw c.in-Some.is at c.follow_window-r.ensures).0)

pub loop-i-preserved : goal.loop-i-preserved
loop-i-preserved c =
    let a = c.args in
    let f = rw c.in_default.is at c.follow_window-r.ensures in
    far-on a.g.now.card a.g.now.register.now a.g.now.used a.g.now.plan.now a.counts.now a.places.now a.q c.loop-i.places c.loop-i.t c.loop-i.from c.loop-i.i c.loop-i.invariant c.requires.1 (omega arith)
    c.follow_window-r.result.sketch _ c.places-1.given f.0 f.1

pub returns : goal.returns
returns c =
    let a = c.args in
    far-end a.g.now.card a.g.now.register.now a.g.now.used a.g.now.plan.now a.counts.now a.places.now a.q c.loop-i.places c.loop-i.t c.loop-i.from c.loop-i.i c.loop-i.invariant (omega arith)

pub shape_of-places : goal.shape_of-places
shape_of-places c = c.loop-i.invariant.long
