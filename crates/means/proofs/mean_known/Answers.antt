-- `means::mean_known` meets its contract: what is lent is packed and large enough, and what is told is divided.
use Rattle.lists.proofs.Prelude.{sym, ap, ◌∙◌, ◌+◌, ◌*◌, arith, replicate, length-take-le, rules}
use Rattle.answers.specs.Answers.{refuse_if}
use Rattle.words.specs.Words.{words}
use Rattle.state.specs.Views.{buffered}
use Rattle.state.proofs.Kept.{state-kept}
use Rattle.scores.specs.Terms.{told_term}
use Rattle.stretches.specs.Reached.{whole}
use Rattle.scores.proofs.Opened.{rule-sizes}
use Rattle.scores.proofs.Serving.{told-formed, told-malformed}
use Rattle.means.proofs.mean_known.Goals as goal

pub pack_run-requires : goal.pack_run-requires
pack_run-requires c =
    let k = (state-kept c.args.s c.requires.0).buffer in
    (k.used, omega arith, rule-sizes c.args.s.windows (buffered c.args.s.buffer) k.rules)

pub slice_bounds-heads-end : goal.slice_bounds-heads-end
slice_bounds-heads-end c = omega (arith, (state-kept c.args.s c.requires.0).partitions.used)

pub slice_bounds-count_term-end-2 : goal.slice_bounds-count_term-end-2
slice_bounds-count_term-end-2 c =
    let k = (state-kept c.args.s c.requires.0).partitions.used in
    sym (length-take-le (4 * c.args.s.partitions.used + 4) (replicate 208 0) (omega arith))

pub count_term-told-requires : goal.count_term-told-requires
count_term-told-requires c =
    let k = (state-kept c.args.s c.requires.0).partitions.used in
    (c.requires.0, c.requires.1, c.requires.2, c.pack_run.ensures, length-take-le (4 * c.args.s.partitions.used + 4) (replicate 208 0) (omega arith))

pub divide-requires : goal.divide-requires
divide-requires c = c.in-Some.ensures.fitting

pub returns-in_default : goal.returns-in_default
unfolding refuse_if
returns-in_default c =
    let a = c.args in
    let W = words a.card.now in
    rw (told-malformed W a.s whole a.number
    (ap (λ t. told_term W a.s t a.number) (sym c.all_windows.ensures) ∙ sym c.count_term-told.ensures.told ∙ c.in_default.is))

pub returns : goal.returns
unfolding refuse_if
returns c =
    let a = c.args in
    let W = words a.card.now in
    let t = told-formed W a.s whole a.number _
    (ap (λ t. told_term W a.s t a.number) (sym c.all_windows.ensures) ∙ sym c.count_term-told.ensures.told ∙ c.in-Some.is) in
    c.divide.ensures ∙ rw (t.0, t.1, t.2)
