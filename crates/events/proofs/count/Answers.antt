use Rattle.std.specs.Prelude.{Some, None, Ok, Err}
use Rattle.state.proofs.Kept.{state-kept}
use Rattle.admission.proofs.Laws.{card-size}
use Rattle.windows.specs.Promises.{probe_of}
use Rattle.events.proofs.Verdicts.{event-barred, event-plain, event-flushed}
use Rattle.events.proofs.Counts.{judged, in-register, countable-plain, countable-flushed}
use Rattle.events.proofs.count.Goals as goal

pub must_flush-wanted-requires : goal.must_flush-wanted-requires
must_flush-wanted-requires c = (state-kept c.args.s c.requires.rule).buffer.used

pub target_of-requires : goal.target_of-requires
target_of-requires c =
    (c.requires.rule, card-size c.args.s.lengths c.args.card.now c.args.register.now c.requires.lengths)

pub flush_to-requires : goal.flush_to-requires
flush_to-requires c = (
  c.requires.rule,
  card-size c.args.s.lengths c.args.card.now c.args.register.now c.requires.lengths,
  (rw (c.in-Ok-Some.is, c.in-Ok-Some.field-0-is) at c.target_of.ensures).1,
)

pub enter-requires : goal.enter-requires
enter-requires c =
    let p = probe_of c.args.s c.args.card.now c.args.register.now in
    (rw c.flush_to.ensures.0 (countable-flushed p c.args.id.now c.args.i c.requires _), in-register p c.args.id.now c.args.i c.requires)

pub enter-requires-in-Ok-None : goal.enter-requires-in-Ok-None
enter-requires-in-Ok-None c =
    let s = c.args.s in
    let i = c.args.i in
    let p = probe_of s c.args.card.now c.args.register.now in (
      countable-plain p c.args.id.now i c.requires (judged s i p.card _ (Ok None) c.must_flush-wanted.ensures (rw (c.in-Ok-None.is, c.in-Ok-None.field-0-is) at c.target_of.ensures)),
      in-register p c.args.id.now i c.requires,
    )

pub returns-in-Err : goal.returns-in-Err
returns-in-Err c =
    let s = c.args.s in
    let i = c.args.i in
    let p = probe_of s c.args.card.now c.args.register.now in
    rw c.refuse.ensures
    (event-barred p c.args.id.now i c.requires _ (judged s i p.card _ (Err _) c.must_flush-wanted.ensures (rw c.in-Err.is at c.target_of.ensures)))

pub returns-in-Ok-Some : goal.returns-in-Ok-Some
returns-in-Ok-Some c =
    let s = c.args.s in
    let i = c.args.i in
    let p = probe_of s c.args.card.now c.args.register.now in
    rw (c.enter.ensures.0, c.flush_to.ensures.0, c.flush_to.ensures.1, c.enter.ensures.1)
    (event-flushed p c.args.id.now i c.requires _ (judged s i p.card _ (Ok (Some _)) c.must_flush-wanted.ensures (rw (c.in-Ok-Some.is, c.in-Ok-Some.field-0-is) at c.target_of.ensures)))

pub returns-in-Ok-None : goal.returns-in-Ok-None
returns-in-Ok-None c =
    let s = c.args.s in
    let i = c.args.i in
    let p = probe_of s c.args.card.now c.args.register.now in
    rw (c.enter-in-Ok-None.ensures.0, c.enter-in-Ok-None.ensures.1)
    (event-plain p c.args.id.now i c.requires (judged s i p.card _ (Ok None) c.must_flush-wanted.ensures (rw (c.in-Ok-None.is, c.in-Ok-None.field-0-is) at c.target_of.ensures)))
