use Rattle.lists.proofs.Prelude.{◌≡◌, sym, ap, ◌∙◌, suc, ◌-◌, arith, length, get_or, true, eqb, eqb-true, eqb-false, not-false, by-test, never}
use Rattle.identifiers.proofs.Entries.{length-entry}
use Rattle.registers.specs.Order.{before}
use Rattle.registers.proofs.ascending.Goals as goal

pub entry_at-a-requires : goal.entry_at-a-requires
entry_at-a-requires c = omega (arith, c.requires.0, c.requires.2 (c.loop-k.k - 1))

pub entry_at-b-requires : goal.entry_at-b-requires
entry_at-b-requires c = omega (arith, c.requires.0, c.requires.2 c.loop-k.k)

pub less-requires : goal.less-requires
less-requires c =
    let k = c.loop-k.k in
    let r = c.args.register.now in
    (ap length c.entry_at-a.ensures ∙ length-entry r _ (omega (arith, c.requires.0, c.requires.2 (k - 1))), ap length c.entry_at-b.ensures ∙ length-entry r _ (omega (arith, c.requires.0, c.requires.2 k)))

pub returns-then-not-less : goal.returns-then-not-less
returns-then-not-less c e = never e

pub loop-k-preserved : goal.loop-k-preserved
loop-k-preserved c =
    let l = c.loop-k in
    let k = l.k in
    let r = c.args.register.now in
    let order = c.args.order.now in
    let e : before r (get_or order (k - 1) 0) (get_or order k 0) ≡ true = sym (rw (c.entry_at-a.ensures, c.entry_at-b.ensures) at c.less.ensures) ∙ not-false _ c.if-not-less.false-raw in
    λ m h. by-test (eqb (suc m) k)
    (λ y. let b : suc m ≡ k = eqb-true (suc m) k y in let a : m ≡ k - 1 = omega arith in rw (b, a) e)
    (λ n. l.invariant m (omega (arith, eqb-false (suc m) k n)))

pub returns : goal.returns
returns c e m h = c.loop-k.invariant m (omega arith)
