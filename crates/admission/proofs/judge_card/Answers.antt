use Rattle.lists.proofs.Prelude.{length, eq-eqb, ne_eqb, not-true, not-false}
use Rattle.admission.proofs.judge_card.Goals as goal

pub returns-then-not-sound : goal.returns-then-not-sound
returns-then-not-sound c = rw (not-true c.args.sound c.if-not-sound.true-raw)

pub returns-then-card-l : goal.returns-then-card-l
returns-then-card-l c =
    let a = c.args in
    rw (not-false a.sound c.if-not-sound.false-raw, ne_eqb (length a.card.now) a.l.card c.if-card-l.true)

pub returns : goal.returns
returns c =
    let a = c.args in
    rw (not-false a.sound c.if-not-sound.false-raw, eq-eqb (length a.card.now) a.l.card c.if-card-l.false)
