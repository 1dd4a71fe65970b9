use Rattle.lists.proofs.Prelude.{arith, eqb, eqb-true, eqb-false, by-test}
use Rattle.registers.proofs.inverse.Goals as goal

pub loop-p-preserved : goal.loop-p-preserved
loop-p-preserved c =
    let l = c.loop-p in
    λ q h. by-test (eqb q l.p) (λ y. rw (eqb-true q l.p y) c.if-order-k.false) (λ n. l.invariant q (omega (arith, eqb-false q l.p n)))

pub returns : goal.returns
returns c e q h = c.loop-p.invariant q (omega arith)
