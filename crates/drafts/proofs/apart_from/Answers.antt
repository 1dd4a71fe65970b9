use Rattle.lists.proofs.Prelude.{sym, ◌∙◌, ◌<◌, length, of_at}
use Rattle.words.specs.Words.{words}
use Rattle.state.specs.Views.{no_partition, finished}
use Rattle.card.specs.Chains.{blocks_for}
use Rattle.card.specs.Cursors.{Chained}
use Rattle.drafts.proofs.Apart.{apart-fails, apart-step, apart-end}
use Rattle.drafts.proofs.apart_from.Goals as goal

pub mark_chain-requires : goal.mark_chain-requires
mark_chain-requires c =
    let same = c.finished-p-items.ensures in
    let h : c.loop-p.p-index < length (finished c.args.ps) = rw same at c.loop-p-test.true in
    rw (c.blocks_for.ensures, same) (of_at (λ p. Chained (words c.args.card.now) p.first (blocks_for p.length)) no_partition (finished c.args.ps) c.loop-p.p-index h c.requires.1)

pub returns-in_default : goal.returns-in_default
returns-in_default c =
    let same = c.finished-p-items.ensures in
    let h : c.loop-p.p-index < length (finished c.args.ps) = rw same at c.loop-p-test.true in
    let t = rw same at (rw c.blocks_for.ensures at c.in_default.ensures) in
    sym (c.loop-p.invariant ∙ apart-fails (words c.args.card.now) c.loop-p.m (finished c.args.ps) c.loop-p.p-index no_partition h t)

pub loop-p-preserved : goal.loop-p-preserved
loop-p-preserved c =
    let same = c.finished-p-items.ensures in
    let h : c.loop-p.p-index < length (finished c.args.ps) = rw same at c.loop-p-test.true in
    let j = rw same at (rw c.blocks_for.ensures at c.in-Some.ensures) in
    c.loop-p.invariant ∙ apart-step (words c.args.card.now) c.loop-p.m (finished c.args.ps) c.loop-p.p-index no_partition h c.in-Some.k j

pub returns : goal.returns
returns c =
    let h = rw c.finished-p-items.ensures at c.loop-p-test.false in
    sym (c.loop-p.invariant ∙ apart-end (words c.args.card.now) c.loop-p.m (finished c.args.ps) c.loop-p.p-index h)
