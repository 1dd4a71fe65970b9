-- `capi::gemsilver_forecast` meets its contract.
use Rattle.lists.proofs.Prelude.{not, refl, sym, ap, ◌∙◌, not-false}
use Rattle.answers.specs.Answers.{Answer, refuse_if}
use Rattle.numbers.specs.Images.{number_for, told_by}
use Rattle.capi.specs.Queries.{forecast_on}
use Rattle.capi.proofs.gemsilver_forecast.Goals as goal

pub returns-then-not-image_ok : goal.returns-then-not-image_ok
unfolding forecast_on refuse_if
returns-then-not-image_ok c = rw (ap not (sym c.image_ok.ensures) ∙ c.if-not-image_ok.true-raw) (refl, refl)

pub read_state-s-requires : goal.read_state-s-requires
read_state-s-requires c = sym c.image_ok.ensures ∙ not-false _ c.if-not-image_ok.false-raw

pub returns : goal.returns
unfolding forecast_on refuse_if
returns c =
    let a = c.args in
    let e = rw c.read_state-s.ensures at c.forecast-answer.ensures in
    rw (ap not (sym c.image_ok.ensures) ∙ c.if-not-image_ok.false-raw)
    (c.settle_forecast.ensures.0 ∙ ap number_for e, c.settle_forecast.ensures.1 ∙ ap (λ (x : Answer). told_by x a.told.now) e)
