-- `plans::judging::stands` meets its contract.
use Rattle.lists.proofs.Prelude.{sym, ◌∙◌, not-true, not-false}
use Rattle.words.specs.Words.{words}
use Rattle.card.proofs.Seeking.{rule-chained}
use Rattle.plans.specs.Acting.{stands_on}
use Rattle.plans.proofs.judging.stands.Goals as goal

pub returns-then-job-n : goal.returns-then-job-n
unfolding stands_on
returns-then-job-n c = rw (rw c.blocks_for-n.ensures at c.if-job-n.true)

pub returns-then-not-chain_ok : goal.returns-then-not-chain_ok
unfolding stands_on
returns-then-not-chain_ok c =
    let n = c.blocks_for-n.ensures in
    rw (rw n at c.if-job-n.false, rw n at (sym c.chain_ok.ensures ∙ not-true _ c.if-not-chain_ok.true-raw))

pub stands_apart-requires : goal.stands_apart-requires
stands_apart-requires c =
    (c.requires.2, c.requires.3, rule-chained (words c.args.card.now) c.args.blocks c.args.job.first _ c.requires.0 c.requires.1 (sym c.chain_ok.ensures ∙ not-false _ c.if-not-chain_ok.false-raw))

pub returns : goal.returns
unfolding stands_on
returns c =
    let n = c.blocks_for-n.ensures in
    rw (rw n at c.if-job-n.false, rw n at (sym c.chain_ok.ensures ∙ not-false _ c.if-not-chain_ok.false-raw)) (rw n at c.stands_apart.ensures)
