use Rattle.lists.proofs.Prelude.{arith}
use Rattle.words.specs.Words.{words}
use Rattle.card.proofs.Cursors.{good-moved, moved-less}
use Rattle.spans.proofs.Ahead.{met-first, met-more, met_all}
use Rattle.spans.proofs.span_ahead.Goals as goal

pub loop-at-init : goal.loop-at-init
loop-at-init c = (c.requires, met-first (words c.args.card.now) _, omega arith)

pub head-requires : goal.head-requires
head-requires c = (c.loop-at-test.true, c.loop-at.invariant.0)

pub moved-at-requires : goal.moved-at-requires
moved-at-requires c = (c.loop-at-test.true, c.loop-at.invariant.0)

pub loop-at-smaller : goal.loop-at-smaller
loop-at-smaller c =
    rw c.moved-at.ensures (moved-less (words c.args.card.now) c.loop-at.at c.loop-at-test.true)

pub loop-at-preserved : goal.loop-at-preserved
loop-at-preserved c =
    let W = words c.args.card.now in
    let h = c.loop-at-test.true in
    let m = met-more W c.args.c c.loop-at.at c.loop-at.span.lowest c.loop-at.span.highest h c.loop-at.invariant.1 in
    let u = c.unpack-p.ensures in
    let w = c.widened-span.ensures in
    rw (c.moved-at.ensures, w.0, w.1, u, c.head.ensures)
    (good-moved W c.loop-at.at h c.loop-at.invariant.0, m, omega (arith, c.loop-at.invariant.2))

pub returns : goal.returns
returns c =
    met_all (words c.args.card.now) c.args.c c.loop-at.at c.loop-at.span.lowest c.loop-at.span.highest (omega (arith, c.loop-at-test.false)) c.loop-at.invariant.2 c.loop-at.invariant.1
