use Rattle.std.proofs.lemmas.Result.{err_from_is_err_and}
use Rattle.lists.proofs.Prelude.{sym, ◌∙◌, arith}
use Rattle.state.specs.Rules.{state_rule}
use Rattle.state.proofs.Kept.{state-kept}
use Rattle.admission.proofs.Laws.{probe-sound, register-size, register-most}
use Rattle.windows.specs.Promises.{probe_of}
use Rattle.events.proofs.Turns.{event-first, event-judged}
use Rattle.events.proofs.judging.judge_event.Goals as goal

pub judge_probe-requires : goal.judge_probe-requires
judge_probe-requires c = λ e. register-most c.args.s (sym c.state_ok.ensures ∙ e)

pub judge_turn-requires : goal.judge_turn-requires
judge_turn-requires c =
    let a = c.args in
    let f = probe-sound (state_rule a.s) a.s.lengths a.card.now a.register.now (rw (c.in_ok-judge_probe.was, c.state_ok.ensures) at c.judge_probe.ensures) in
    let k = state-kept a.s f.rule in
    (k.listed.used, omega (arith, register-size a.s.lengths a.card.now a.register.now f.lengths, register-most a.s f.rule), f.formed)

pub returns-in_err-judge_probe : goal.returns-in_err-judge_probe
returns-in_err-judge_probe c =
    let a = c.args in
    let p = err_from_is_err_and c.from_residual.result c.from_residual.ensures.1 in
    rw (p.1, p.2) (event-first (probe_of a.s a.card.now a.register.now) a.id.now _ (rw (c.in_err-judge_probe.was, c.state_ok.ensures) at c.judge_probe.ensures))

pub returns : goal.returns
returns c =
    let a = c.args in
    event-judged (probe_of a.s a.card.now a.register.now) a.id.now (rw (c.in_ok-judge_probe.was, c.state_ok.ensures) at c.judge_probe.ensures) c.judge_turn.result c.judge_turn.ensures
