use Rattle.lists.proofs.Prelude.{[], refl, sym, ◌+◌, ◌-◌, ◌≤◌, arith, length, take, drop, length-take-le}
use Rattle.sessions.proofs.Taking.{rest-length, batch-none, batch-more, batch-ended}
use Rattle.sessions.proofs.lines.take_some.Goals as goal

pub loop-i-init : goal.loop-i-init
loop-i-init c = (batch-none _ c.keep_some-first.ensures, omega arith)

pub slice_bounds-answer-end-in-loop-i : goal.slice_bounds-answer-end-in-loop-i
slice_bounds-answer-end-in-loop-i c = sym (length-take-le _ _ (omega (arith, c.loop-i.invariant.0.few)))

pub overflow_add-i-in-loop-i : goal.overflow_add-i-in-loop-i
overflow_add-i-in-loop-i c =
    let piece = c.args.piece.now in
    let i = c.loop-i.i in
    let w : c.keep_some-next.result.passed ≤ length (take (length piece - (i + 1)) (drop (i + 1) piece)) = c.keep_some-next.ensures.within in
    omega (arith, w, rest-length piece (i + 1))

pub loop-i-preserved : goal.loop-i-preserved
loop-i-preserved c = (batch-more c.loop-i.invariant.0 c.loop-i-test.true c.answer-d.ensures c.keep_some-next.ensures, c.answer-d.ensures.fits)

pub returns-after-loop-i : goal.returns-after-loop-i
returns-after-loop-i c =
    let v = c.loop-i.invariant in
    batch-ended _ _ _ _ refl (c.keep_some-first.ensures.same _ []) v.0 v.1 (λ h. omega arith)

pub returns-then-out-used-lt1024 : goal.returns-then-out-used-lt1024
returns-then-out-used-lt1024 c =
    let v = c.loop-i.invariant in
    batch-ended _ _ _ _ refl (c.keep_some-first.ensures.same _ []) v.0 v.1 (λ h. omega (arith, c.if-out-used-lt1024.true, v.1))
