use Rattle.lists.proofs.Prelude.{◌≡◌, arith, length}
use Rattle.sessions.proofs.Taking.{keep-none, keep-more, keep-past, keep-stopped, keep-as}
use Rattle.sessions.proofs.lines.keep_some.Goals as goal
use Rattle.sessions.proofs.lines.keep_some.Goals.{then-n-lt513, else-n-lt513}

pub loop-i-init : goal.loop-i-init
loop-i-init c = keep-none _ _ _ (omega arith)

pub loop-i-preserved : goal.loop-i-preserved
loop-i-preserved c =
    let s = c.loop-i.invariant in
    let h = c.loop-i-test.true in
    let f = c.if-b-eq10.false in
    elim c.if-n-lt513.branch [
      | then-n-lt513 w ↦ keep-as w.line-is w.n-is (keep-more s h f w.if-n-lt513.true (omega (arith, s.long, c.requires)))
      | else-n-lt513 w ↦ keep-as w.line-is w.n-is (keep-past s h f w.if-n-lt513.false (omega (arith, s.long, c.requires)))
    ]

pub returns : goal.returns
returns c =
    let e : length c.args.piece.now ≡ c.loop-i.i = omega arith in
    rw e (keep-stopped c.loop-i.invariant (λ h. omega arith))

pub returns-then-b-eq10 : goal.returns-then-b-eq10
returns-then-b-eq10 c = keep-stopped c.loop-i.invariant (λ h. c.if-b-eq10.true)
