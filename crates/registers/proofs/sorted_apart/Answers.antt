use Rattle.lists.proofs.Prelude.{arith, not-false, never}
use Rattle.identifiers.specs.Register.{names}
use Rattle.identifiers.proofs.Entries.{names-bound, names-within}
use Rattle.registers.proofs.Sorted.{zeros-below, none_differ, in_order}
use Rattle.registers.proofs.sorted_apart.Goals as goal

pub count_used-n-requires : goal.count_used-n-requires
count_used-n-requires c = c.requires.0

pub returns-then-n-eq0 : goal.returns-then-n-eq0
returns-then-n-eq0 c e = none_differ (names c.args.register.now) (omega (arith, c.if-n-eq0.true, c.count_used-n.ensures))

pub fill-requires : goal.fill-requires
fill-requires c =
    (omega (arith, c.count_used-n.ensures, names-bound c.args.register.now c.requires.0 c.requires.1), zeros-below 1024 _ (omega (arith, c.if-n-eq0.false)))

pub loop-width-init : goal.loop-width-init
loop-width-init c = (omega arith, c.fill.ensures, zeros-below 1024 _ (omega (arith, c.if-n-eq0.false)))

pub pass-requires : goal.pass-requires
pass-requires c =
    let u = c.count_used-n.ensures in
    let b = names-bound c.args.register.now c.requires.0 c.requires.1 in
    (omega (arith, u, names-within c.args.register.now c.requires.0), omega (arith, u, b), c.loop-width.invariant.1, c.loop-width.invariant.2, c.loop-width.invariant.0, omega (arith, b, u, c.loop-width-test.true))

pub overflow_mul-width : goal.overflow_mul-width
overflow_mul-width c =
    let u = c.count_used-n.ensures in
    let b = names-bound c.args.register.now c.requires.0 c.requires.1 in
    omega (arith, b, u, c.loop-width-test.true)

pub overflow_mul-width-in-loop-width : goal.overflow_mul-width-in-loop-width
overflow_mul-width-in-loop-width c =
    let u = c.count_used-n.ensures in
    let b = names-bound c.args.register.now c.requires.0 c.requires.1 in
    omega (arith, b, u, c.loop-width-test.true)

pub pass-requires-in-loop-width : goal.pass-requires-in-loop-width
pass-requires-in-loop-width c =
    let u = c.count_used-n.ensures in
    let b = names-bound c.args.register.now c.requires.0 c.requires.1 in
    (omega (arith, u, names-within c.args.register.now c.requires.0), omega (arith, u, b), c.pass.ensures, c.loop-width.invariant.1, omega (arith, c.loop-width.invariant.0), omega (arith, b, u, c.loop-width-test.true))

pub loop-width-smaller : goal.loop-width-smaller
loop-width-smaller c = omega (arith, c.loop-width.invariant.0, c.loop-width-test.true)

pub loop-width-preserved : goal.loop-width-preserved
loop-width-preserved c = (omega (arith, c.loop-width.invariant.0), c.pass-in-loop-width.ensures, c.pass.ensures)

pub rank-requires : goal.rank-requires
rank-requires c =
    let u = c.count_used-n.ensures in
    let b = names-bound c.args.register.now c.requires.0 c.requires.1 in
    (omega (arith, u, b), c.loop-width.invariant.1, c.loop-width.invariant.2)

pub inverse-requires : goal.inverse-requires
inverse-requires c =
    let u = c.count_used-n.ensures in
    let b = names-bound c.args.register.now c.requires.0 c.requires.1 in
    (omega (arith, u, b), c.rank.ensures, c.loop-width.invariant.1)

pub returns-then-not-inverse : goal.returns-then-not-inverse
returns-then-not-inverse c e = never e

pub ascending-requires : goal.ascending-requires
ascending-requires c =
    let u = c.count_used-n.ensures in
    let b = names-bound c.args.register.now c.requires.0 c.requires.1 in
    (omega (arith, u, names-within c.args.register.now c.requires.0), omega (arith, u, b), c.loop-width.invariant.1)

pub returns : goal.returns
returns c e =
    let n = c.count_used-n.ensures in
    let i = c.inverse.ensures (not-false _ c.if-not-inverse.false-raw) in
    let r = c.rank in
    in_order c.args.register.now c.requires.0 c.loop-width.order r.new.ranks (rw n at r.ensures) (rw n at i) (rw n at (c.ascending.ensures e))
