-- `forecasts::judge` meets its contract: each test that fails is told by its number, and none where all pass.
use Rattle.lists.proofs.Prelude.{sym, ◌∙◌, arith, length, eq-eqb, ne_eqb, not-true, not-false}
use Rattle.forecasts.proofs.judge.Goals as goal

pub returns-then-register-l : goal.returns-then-register-l
returns-then-register-l c =
    let a = c.args in
    rw (not-false a.sound c.if-not-sound.false-raw, ne_eqb (length a.register.now) a.l.register c.if-register-l.true)

pub register_ok-requires : goal.register_ok-requires
register_ok-requires c =
    omega (arith, c.requires (not-false c.args.sound c.if-not-sound.false-raw), c.if-register-l.false)

pub returns-then-not-register_ok : goal.returns-then-not-register_ok
returns-then-not-register_ok c =
    let a = c.args in
    rw (not-false a.sound c.if-not-sound.false-raw, eq-eqb (length a.register.now) a.l.register c.if-register-l.false, sym c.register_ok.ensures ∙ not-true _ c.if-not-register_ok.true-raw)

pub returns-then-not-recording_ok : goal.returns-then-not-recording_ok
returns-then-not-recording_ok c =
    let a = c.args in
    rw (
      not-false a.sound c.if-not-sound.false-raw,
      eq-eqb (length a.register.now) a.l.register c.if-register-l.false,
      sym c.register_ok.ensures ∙ not-false _ c.if-not-register_ok.false-raw,
      sym c.recording_ok.ensures ∙ not-true _ c.if-not-recording_ok.true-raw,
    )

pub returns : goal.returns
returns c =
    let a = c.args in
    rw (
      not-false a.sound c.if-not-sound.false-raw,
      eq-eqb (length a.register.now) a.l.register c.if-register-l.false,
      sym c.register_ok.ensures ∙ not-false _ c.if-not-register_ok.false-raw,
      sym c.recording_ok.ensures ∙ not-false _ c.if-not-recording_ok.false-raw,
    )
