-- `forecasts::forecast` meets its contract: what is judged first refuses, or the plan is followed.
use Rattle.std.proofs.lemmas.Result.{err_from_is_err_and}
use Rattle.lists.proofs.Prelude.{sym, ap, ◌∙◌}
use Rattle.answers.specs.Answers.{answer_of}
use Rattle.admission.proofs.Laws.{register-most}
use Rattle.forecasts.proofs.Told.{plan-sound, forecast-barred, forecast-granted}
use Rattle.forecasts.proofs.forecast.Goals as goal

pub judge-requires : goal.judge-requires
judge-requires c = λ e. register-most c.args.s (sym c.state_ok.ensures ∙ e)

pub foresee-requires : goal.foresee-requires
foresee-requires c =
    let a = c.args in
    let k = plan-sound a.s a.register.now a.plan.now a.counts.now (rw (c.in_ok-judge.was, c.state_ok.ensures) at c.judge.ensures) in
    (k.rule, k.size, k.formed, k.plan)

pub returns-in_err-judge : goal.returns-in_err-judge
returns-in_err-judge c =
    let a = c.args in
    let p = err_from_is_err_and c.from_residual.result c.from_residual.ensures.1 in
    rw (p.1, p.2) (sym (ap answer_of (forecast-barred a.s a.register.now a.plan.now a.counts.now _ (rw (c.in_err-judge.was, c.state_ok.ensures) at c.judge.ensures))))

pub returns : goal.returns
returns c =
    let a = c.args in
    c.foresee.ensures
    ∙ sym (ap answer_of (forecast-granted a.s a.register.now a.plan.now a.counts.now (rw (c.in_ok-judge.was, c.state_ok.ensures) at c.judge.ensures)))
