use Rattle.lists.proofs.Prelude.{sym, ◌∙◌, arith, not-true, not-false}
use Rattle.admission.specs.Admission.{same_lengths}
use Rattle.admission.proofs.Laws.{register-size}
use Rattle.admission.proofs.judge_probe.Goals as goal

pub returns-then-not-sound : goal.returns-then-not-sound
returns-then-not-sound c = rw (not-true c.args.sound c.if-not-sound.true-raw)

pub returns-then-not-card-l : goal.returns-then-not-card-l
returns-then-not-card-l c =
    let a = c.args in
    rw (not-false a.sound c.if-not-sound.false-raw, not-true (same_lengths a.l a.card.now a.register.now) c.if-not-card-l.true-raw)

pub register_ok-requires : goal.register_ok-requires
register_ok-requires c =
    let most = c.requires (not-false c.args.sound c.if-not-sound.false-raw) in
    omega (arith, register-size c.args.l c.args.card.now c.args.register.now (not-false _ c.if-not-card-l.false-raw), most)

pub returns-then-not-register_ok : goal.returns-then-not-register_ok
returns-then-not-register_ok c =
    let a = c.args in
    rw (not-false a.sound c.if-not-sound.false-raw, not-false (same_lengths a.l a.card.now a.register.now) c.if-not-card-l.false-raw, sym c.register_ok.ensures ∙ not-true _ c.if-not-register_ok.true-raw)

pub returns : goal.returns
returns c =
    let a = c.args in
    rw (not-false a.sound c.if-not-sound.false-raw, not-false (same_lengths a.l a.card.now a.register.now) c.if-not-card-l.false-raw, sym c.register_ok.ensures ∙ not-false _ c.if-not-register_ok.false-raw)
