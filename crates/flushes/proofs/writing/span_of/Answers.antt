use Prim.Native.Nat.{min, max}
use Rattle.lists.proofs.Prelude.{sym, ◌∙◌, ◌+◌, arith, get_or, drop, turn, end}
use Rattle.postings.specs.Spans.{lowest, highest}
use Rattle.postings.proofs.Spans.{min_assoc, max_assoc, lowest-most}
use Rattle.state.specs.Views.{no_posting, buffered}
use Rattle.flushes.proofs.writing.span_of.Goals as goal

pub loop-p-init : goal.loop-p-init
loop-p-init c =
    let l = buffered c.args.b in
    rw c.buffered-p-items.ensures (record { small = omega arith; low = omega (arith, lowest-most l); high = omega arith })

pub loop-p-preserved : goal.loop-p-preserved
unfolding lowest highest
loop-p-preserved c =
    let l = c.buffered-p-items.result.now in
    let v = c.loop-p.invariant in
    let i = c.loop-p.p-index in
    let lo = c.loop-p.span.lowest in
    let hi = c.loop-p.span.highest in
    let w = (get_or l i no_posting).window in
    let rest = drop (i + 1) l in
    let x = c.widened-span.ensures in
    record {
      small = rw x.0 (omega (arith, v.small));
      low = rw x.0 (turn (λ l. min lo (lowest l)) l i no_posting c.loop-p-test.true v.low ∙ min_assoc lo w (lowest rest));
      high = rw x.1 (turn (λ l. max hi (highest l)) l i no_posting c.loop-p-test.true v.high ∙ max_assoc hi w (highest rest));
    }

pub returns : goal.returns
unfolding lowest highest
returns c =
    let l = c.buffered-p-items.result.now in
    let v = c.loop-p.invariant in
    let lo = c.loop-p.span.lowest in
    let hi = c.loop-p.span.highest in
    let low = end (λ l. min lo (lowest l)) l c.loop-p.p-index c.loop-p-test.false v.low in
    let high = end (λ l. max hi (highest l)) l c.loop-p.p-index c.loop-p-test.false v.high in
    (sym (low ∙ omega (arith, v.small)), sym (high ∙ omega arith))
