use Rattle.lists.proofs.Prelude.{[], refl, sym, ap, ◌∙◌, ◌-◌, ◌<◌, ◌≤◌, arith, length}
use Rattle.words.specs.Words.{words}
use Rattle.words.proofs.Views.{words-below}
use Rattle.inputs.specs.Ahead.{pairs_ahead, batched}
use Rattle.inputs.proofs.Taking.{ahead_none}
use Rattle.inputs.proofs.Batches.{take_none, take-empty, drop-none, drop-empty, drop-next, batch-more, batch-count, batch-done}
use Rattle.inputs.proofs.sixteen.Goals as goal

pub pairs-init : goal.pairs-init
pairs-init c = (omega arith, omega arith, refl, c.requires, refl, omega arith, refl)

pub next_pair-t-requires : goal.next_pair-t-requires
next_pair-t-requires c = (c.pairs.invariant.3, omega arith)

pub kept-b-requires : goal.kept-b-requires
kept-b-requires c = omega (arith, c.pairs.invariant.0, c.pairs.invariant.1, c.if-i-eq16.false)

pub pairs-preserved : goal.pairs-preserved
pairs-preserved c =
    let W = words c.args.card.now in
    let v = c.pairs.invariant in
    let t = c.next_pair-t in
    let k = c.kept-b in
    let e = t.ensures.0 in
    let was = pairs_ahead W c.args.n c.pairs.heads in
    let on = pairs_ahead W c.args.n t.new.heads in
    let h : c.pairs.i < 16 = omega (arith, v.0, c.if-i-eq16.false) in (
      omega arith,
      omega (arith, k.ensures.1, v.1),
      t.auto.heads ∙ v.2,
      t.ensures.1,
      batch-more _ (batched c.pairs.b) c.pairs.i was on t.result.pair h e (batched k.result) k.ensures.0 v.4,
      batch-count [] [] c.pairs.i was on t.result.pair h e _ v.5,
      v.6 ∙ drop-next 16 c.pairs.i was on t.result.pair h e,
    )

pub shape_of-heads-then-i-eq16 : goal.shape_of-heads-then-i-eq16
shape_of-heads-then-i-eq16 c = c.pairs.invariant.2

pub returns-then-i-eq16 : goal.returns-then-i-eq16
returns-then-i-eq16 c =
    let v = c.pairs.invariant in
    let h : 16 ≤ c.pairs.i = omega (arith, c.if-i-eq16.true) in
    let ps = pairs_ahead (words c.args.card.now) c.args.n c.pairs.heads in
    let e = take_none 16 c.pairs.i ps h in
    (batch-done _ (batched c.pairs.b) _ e v.4, omega (arith, ap length e, v.5), omega (arith, v.0, v.1), sym (v.6 ∙ drop-none 16 c.pairs.i ps h))

pub shape_of-heads-then-top-eq0 : goal.shape_of-heads-then-top-eq0
shape_of-heads-then-top-eq0 c = c.pairs.invariant.2

pub returns-then-top-eq0 : goal.returns-then-top-eq0
returns-then-top-eq0 c =
    let W = words c.args.card.now in
    let small = words-below c.args.card.now (λ k. omega (arith, c.shared_slice_known-1.given k)) in
    let v = c.pairs.invariant in
    let ps = pairs_ahead W c.args.n c.pairs.heads in
    let q = ahead_none W small c.args.n c.pairs.heads c.pairs.top v.3 c.if-top-eq0.true in
    let e = take-empty (16 - c.pairs.i) ps q in
    (batch-done _ (batched c.pairs.b) _ e v.4, omega (arith, ap length e, v.5), omega (arith, v.0, v.1), sym (v.6 ∙ drop-empty (16 - c.pairs.i) ps q))
