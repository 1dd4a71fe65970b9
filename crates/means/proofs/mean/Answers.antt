-- `means::mean` meets its contract: what is judged first refuses, or the rest decides.
use Rattle.std.proofs.lemmas.Result.{err_from_is_err_and}
use Rattle.lists.proofs.Prelude.{sym, ap, ◌∙◌}
use Rattle.answers.specs.Answers.{answer_of}
use Rattle.state.specs.Probe.{probe_of}
use Rattle.admission.proofs.Laws.{register-most, admitted}
use Rattle.means.proofs.Outcomes.{mean-barred}
use Rattle.means.proofs.mean.Goals as goal

pub judge_probe-requires : goal.judge_probe-requires
judge_probe-requires c = λ e. register-most c.args.s (sym c.state_ok.ensures ∙ e)

pub returns-in_err-judge_probe : goal.returns-in_err-judge_probe
returns-in_err-judge_probe c =
    let a = c.args in
    let p = err_from_is_err_and c.from_residual.result c.from_residual.ensures.1 in
    rw (p.1, p.2) (sym (ap answer_of (mean-barred (probe_of a.s a.card.now a.register.now) a.id.now _ (rw (c.in_err-judge_probe.was, c.state_ok.ensures) at c.judge_probe.ensures))))

pub mean_admitted-requires : goal.mean_admitted-requires
mean_admitted-requires c =
    let a = c.args in
    admitted a.s a.card.now a.register.now _ c.state_ok.ensures (rw c.in_ok-judge_probe.was at c.judge_probe.ensures)
