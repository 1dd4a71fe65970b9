use mathlib.Core.Path.{refl, sym}
use Prim.Native.Nat.{◌-◌, ◌≤◌, ◌<◌}
use native.Mathlib.Omega.{arith}
use lib.ListN.{length, take, drop}
use lib.Seq.{length-take-le}
use Rattle.sessions.proofs.Taking.{rest-length, serve-none, serve-more, serve-ended, serve-failed}
use Rattle.probe.proofs.serve.Goals as goal

pub loop-i-init : goal.loop-i-init
loop-i-init c = (serve-none _ c.args.piece.now refl, omega (arith, c.requires), omega arith)

pub overflow_add-i : goal.overflow_add-i
overflow_add-i c =
    let piece = c.args.piece.now in
    let i = c.loop-i.i in
    let w : c.take_some-t.result.passed ≤ length (take (length piece - i) (drop i piece)) = c.take_some-t.ensures.within in
    omega (arith, w, rest-length piece i, c.loop-i.invariant.2)

pub slice_bounds-write_all-end-in-loop-i : goal.slice_bounds-write_all-end-in-loop-i
slice_bounds-write_all-end-in-loop-i c = sym (length-take-le _ _ c.take_some-t.ensures.fits)

pub loop-i-smaller : goal.loop-i-smaller
loop-i-smaller c =
    let a = c.loop-i in
    let piece = c.args.piece.now in
    let i = a.i in
    let t = c.take_some-t in
    let w : t.result.passed ≤ length (take (length piece - i) (drop i piece)) = t.ensures.within in
    let h : 0 < length (take (length piece - i) (drop i piece)) = omega (arith, rest-length piece i, c.loop-i-test.true) in
    let m : 0 < t.result.passed = t.ensures.moves h (omega arith) in
    omega (arith, m, w, rest-length piece i, a.invariant.2)

pub loop-i-preserved : goal.loop-i-preserved
loop-i-preserved c =
    let a = c.loop-i in
    let piece = c.args.piece.now in
    let i = a.i in
    let t = c.take_some-t in
    let w : t.result.passed ≤ length (take (length piece - i) (drop i piece)) = t.ensures.within in
    (serve-more _ _ _ _ a.invariant.0 t.ensures, t.ensures.few, omega (arith, w, rest-length piece i, a.invariant.2))

pub returns-after-loop-i : goal.returns-after-loop-i
returns-after-loop-i c = serve-ended {i = c.loop-i.i} _ c.loop-i.invariant.0 (omega arith) c.loop-i.invariant.1

pub returns-then-not-good : goal.returns-then-not-good
returns-then-not-good c = serve-failed c.if-not-good.true c.take_some-t.ensures.few
