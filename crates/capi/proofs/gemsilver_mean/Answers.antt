-- `capi::gemsilver_mean` meets its contract.
use Rattle.lists.proofs.Prelude.{not, sym, ap, ◌∙◌, not-false}
use Rattle.answers.specs.Answers.{refuse_if}
use Rattle.numbers.specs.Images.{number_for}
use Rattle.capi.specs.Queries.{mean_on}
use Rattle.capi.proofs.gemsilver_mean.Goals as goal

pub returns-then-not-image_ok : goal.returns-then-not-image_ok
unfolding mean_on refuse_if
returns-then-not-image_ok c = rw (ap not (sym c.image_ok.ensures) ∙ c.if-not-image_ok.true-raw)

pub read_state-s-requires : goal.read_state-s-requires
read_state-s-requires c = sym c.image_ok.ensures ∙ not-false _ c.if-not-image_ok.false-raw

pub returns : goal.returns
unfolding mean_on refuse_if
returns c =
    let read = c.read_state-s.ensures in
    rw (ap not (sym c.image_ok.ensures) ∙ c.if-not-image_ok.false-raw)
    (c.mean_number.ensures ∙ ap number_for (rw read at c.mean-answer.ensures))
