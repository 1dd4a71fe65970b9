-- `capi::gemsilver_remove_all` meets its contract.
use Rattle.lists.proofs.Prelude.{ap, sym, ◌∙◌, arith}
use Rattle.batches.specs.Batch.{remove_all_of}
use Rattle.batches.proofs.Refused.{batch-unchanged}
use Rattle.answers.specs.Numbers.{replied}
use Rattle.capi.specs.Exports.{remove_all_on}
use Rattle.capi.proofs.Carried.{no-image, is-image, judged-refused, judged-made}
use Rattle.capi.proofs.gemsilver_remove_all.Goals as goal

pub returns-then-not-image_ok : goal.returns-then-not-image_ok
unfolding remove_all_on
returns-then-not-image_ok c = no-image _ _ _ c.image_ok.ensures c.if-not-image_ok.true-raw

pub judge_list-requires : goal.judge_list-requires
judge_list-requires c = is-image _ c.image_ok.ensures c.if-not-image_ok.false-raw

pub returns-in-Err : goal.returns-in-Err
unfolding remove_all_on
returns-in-Err c =
    let a = c.args in
    rw c.from.ensures (judged-refused a.image.now c.image_ok.ensures c.if-not-image_ok.false-raw (λ p. remove_all_of p a.windows.now) a.card.now (λ i. omega (arith, c.slice_known-1.given i)) (λ p. batch-unchanged p _) _ (rw c.in-Err.is at c.judge_list.ensures))

pub remove_list-requires : goal.remove_list-requires
remove_list-requires c = (is-image _ c.image_ok.ensures c.if-not-image_ok.false-raw, sym c.judge_list.ensures ∙ ap replied c.in_default.is)

pub returns : goal.returns
unfolding remove_all_on
returns c =
    let a = c.args in
    judged-made a.image.now c.image_ok.ensures c.if-not-image_ok.false-raw (λ p. remove_all_of p a.windows.now) a.card.now _ _ c.remove_list.ensures
