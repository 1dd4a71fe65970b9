-- `forecasts::counting::enter` meets its contract: its flush refuses it, or it is counted after the flush or without one.
use Rattle.lists.proofs.Prelude.{refl, ◌+◌, arith, rules, le-leb, length}
use Rattle.state.proofs.Kept.{buffer-kept}
use Rattle.forecasts.specs.Sketches.{names_with}
use Rattle.forecasts.proofs.Entering.{count-is, new-room, countable, entered-refused, entered-done}
use Rattle.forecasts.proofs.counting.enter.Goals as goal

pub must_flush-wanted-requires : goal.must_flush-wanted-requires
must_flush-wanted-requires c =
    (buffer-kept c.args.q.windows c.args.q.buffer c.requires.sound.buffer).used

pub returns-in-Err : goal.returns-in-Err
returns-in-Err c =
    let a = c.args in
    rw c.refused.ensures (
      entered-refused a.g.now.register.now a.g.now.used a.g.now.plan.now a.places.now a.q a.at a.i c.requires a.g.now.card c.must_flush-wanted.result c.must_flush-wanted.ensures
          _ (rw c.in-Err.is at c.judge_flush.ensures),
      refl,
      refl,
    )

pub note-known-requires : goal.note-known-requires
note-known-requires c =
    let a = c.args in
    let m = count-is a.g.now.register.now a.g.now.used a.g.now.plan.now a.places.now a.q a.at a.i c.requires in (
      λ h. new-room a.g.now.register.now a.g.now.used a.g.now.plan.now a.places.now a.q a.at a.i c.requires
          (le-leb (length (names_with a.g.now.register.now a.g.now.plan.now a.places.now a.q.known)) a.i (omega (arith, h, m, c.requires.lent.count))),
      omega (arith, c.requires.sound.known, c.requires.lent.size),
      c.requires.fits,
    )

pub counted-requires : goal.counted-requires
counted-requires c =
    let a = c.args in
    countable a.g.now.register.now a.g.now.used a.g.now.plan.now a.places.now a.q a.at a.i c.requires a.g.now.card c.must_flush-wanted.result c.must_flush-wanted.ensures c.flushed-t.result c.flushed-t.ensures

pub returns : goal.returns
returns c =
    let a = c.args in
    let m = count-is a.g.now.register.now a.g.now.used a.g.now.plan.now a.places.now a.q a.at a.i c.requires in
    entered-done a.g.now.register.now a.g.now.used a.g.now.plan.now a.places.now a.q a.at a.i c.requires a.g.now.card c.must_flush-wanted.result c.must_flush-wanted.ensures
    (search rules) (rw (c.in_default.is) at c.judge_flush.ensures)
    c.flushed-t.result c.counted.result (a.g.now.used + a.q.known) c.note-known.result c.note-known.new.places c.flushed-t.ensures
    (omega (arith, m, c.requires.lent.count)) c.note-known.ensures c.counted.ensures
