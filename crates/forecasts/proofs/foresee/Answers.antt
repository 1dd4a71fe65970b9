-- `forecasts::foresee` meets its contract: the plan is followed from the state's sketch, and what is left is told.
use Rattle.lists.proofs.Prelude.{refl, ap, ◌∙◌, ◌+◌, ℕ}
use Rattle.answers.specs.Answers.{forecast}
use Rattle.answers.specs.Numbers.{halt_as}
use Rattle.forecasts.proofs.Told.{lent, begun-sound, adds-up, known-most, course-told}
use Rattle.forecasts.proofs.foresee.Goals as goal

pub invariant_of-g : goal.invariant_of-g
invariant_of-g c =
    let a = c.args in
    record { lent = lent a.s a.register.now a.plan.now a.counts.now c.requires.0 c.requires.1 c.requires.2 c.used_entries-used.result c.used_entries-used.ensures }

pub follow_windows-w-requires : goal.follow_windows-w-requires
follow_windows-w-requires c =
    let a = c.args in (
      begun-sound a.s a.register.now a.plan.now a.counts.now c.requires.0 c.requires.1 c.requires.2 c.sketch_of-q.result _ c.sketch_of-q.ensures refl,
      adds-up a.s a.register.now a.plan.now a.counts.now c.requires.0 c.requires.1 c.requires.2 c.requires.3,
    )

pub tell-requires : goal.tell-requires
tell-requires c =
    let a = c.args in
    rw c.used_entries-used.ensures
    (known-most a.s a.register.now a.plan.now a.counts.now c.requires.0 c.requires.1 c.requires.2 c.sketch_of-q.result c.follow_windows-w.result.sketch _ _ c.follow_windows-w.result.stop
    c.sketch_of-q.ensures c.follow_windows-w.ensures)

pub returns : goal.returns
returns c =
    let a = c.args in
    c.tell.ensures
    ∙ ap (λ (m : ℕ). forecast c.follow_windows-w.result.sketch.flushes c.follow_windows-w.result.sketch.blocks (m + c.follow_windows-w.result.sketch.known) (halt_as c.follow_windows-w.result.stop)) c.used_entries-used.ensures
    ∙ course-told a.s a.register.now a.plan.now a.counts.now c.requires.0 c.requires.1 c.requires.2 c.sketch_of-q.result c.follow_windows-w.result.sketch _ _ c.follow_windows-w.result.stop
    c.sketch_of-q.ensures c.follow_windows-w.ensures
