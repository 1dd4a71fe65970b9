use Rattle.std.proofs.lemmas.Result.{err_from_is_err_and}
use Rattle.state.specs.Rules.{state_rule}
use Rattle.admission.proofs.Laws.{card-sound}
use Rattle.flushes.proofs.Flushes.{flush-barred, flush-judged}
use Rattle.flushes.proofs.judge_flush.Goals as goal

pub target_of-requires : goal.target_of-requires
target_of-requires c =
    let a = c.args in
    let k = card-sound (state_rule a.s) a.s.lengths a.card.now (rw (c.in_ok-judge_card.was, c.state_ok.ensures) at c.judge_card.ensures) in
    (k.rule, k.size)

pub returns-in_err-judge_card : goal.returns-in_err-judge_card
returns-in_err-judge_card c =
    let a = c.args in
    let p = err_from_is_err_and c.from_residual.result c.from_residual.ensures.1 in
    rw (p.1, p.2) (flush-barred a.s a.card.now _ (rw (c.in_err-judge_card.was, c.state_ok.ensures) at c.judge_card.ensures))

pub returns : goal.returns
returns c =
    let a = c.args in
    flush-judged a.s a.card.now (rw (c.in_ok-judge_card.was, c.state_ok.ensures) at c.judge_card.ensures) c.target_of.result c.target_of.ensures
