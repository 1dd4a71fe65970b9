use Rattle.lists.proofs.Prelude.{◌≡◌, refl, sym, ◌∙◌, arith, eq-eqb, ne_eqb}
use Rattle.words.specs.Words.{words, all_ones}
use Rattle.card.proofs.Cursors.{ahead_more, good-moved, moved-less}
use Rattle.outputs.proofs.Places.{every-none}
use Rattle.outputs.proofs.rest_free.Goals as goal

pub loop-at-init : goal.loop-at-init
loop-at-init c = (c.requires, refl)

pub head-requires : goal.head-requires
head-requires c = (c.loop-at-test.true, c.loop-at.invariant.0)

pub returns-then-head : goal.returns-then-head
returns-then-head c =
    let W = words c.args.card.now in
    sym (c.loop-at.invariant.1 ∙ rw (ahead_more W c.loop-at.at c.loop-at-test.true, ne_eqb all_ones _ (λ e. c.if-head.true (c.head.ensures ∙ sym e))))

pub moved-at-requires : goal.moved-at-requires
moved-at-requires c = (c.loop-at-test.true, c.loop-at.invariant.0)

pub loop-at-smaller : goal.loop-at-smaller
loop-at-smaller c =
    rw c.moved-at.ensures (moved-less (words c.args.card.now) c.loop-at.at c.loop-at-test.true)

pub loop-at-preserved : goal.loop-at-preserved
loop-at-preserved c =
    let W = words c.args.card.now in
    let h = c.loop-at-test.true in
    let e : all_ones ≡ _ = sym c.if-head.false ∙ c.head.ensures in
    rw c.moved-at.ensures (good-moved W c.loop-at.at h c.loop-at.invariant.0, c.loop-at.invariant.1 ∙ rw (ahead_more W c.loop-at.at h, eq-eqb all_ones _ e))

pub returns : goal.returns
returns c =
    sym (c.loop-at.invariant.1 ∙ every-none (words c.args.card.now) c.loop-at.at (omega (arith, c.loop-at-test.false)))
