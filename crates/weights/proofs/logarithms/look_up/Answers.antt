use Rattle.lists.proofs.Prelude.{◌≡◌, sym, ◌+◌, ◌/◌, arith}
use native.Mathlib.Nat.{lt_of_lt_of_le}
use lib.Pow.{pow_mono}
use Rattle.weights.proofs.Powers.{leading-fits, place-fits, place-reached, place-next}
use Rattle.weights.proofs.Table.{table-long, from-entry, before-entry}
use Rattle.weights.proofs.Laws.{sixteenths-only}
use Rattle.weights.proofs.logarithms.look_up.Goals as goal

pub overflow_sub-low : goal.overflow_sub-low
overflow_sub-low c = leading-fits c.args.n c.requires.1 c.requires.2

pub overflow_mul-low : goal.overflow_mul-low
overflow_mul-low c = omega (arith, place-fits c.args.n c.requires.1 c.requires.2)

pub overflow_add-high : goal.overflow_add-high
overflow_add-high c = omega (arith, place-fits c.args.n c.requires.1 c.requires.2)

pub loop-low-init : goal.loop-low-init
loop-low-init c =
    let n = c.args.n in
    (omega arith, omega (arith, place-fits n c.requires.1 c.requires.2), place-reached n c.requires.1 c.requires.2, lt_of_lt_of_le (place-next n c.requires.1 c.requires.2) (pow_mono (omega arith)))

pub bounds-table-middle : goal.bounds-table-middle
bounds-table-middle c =
    omega (arith, table-long c.args.table.now c.requires.0, c.loop-low.invariant.0, c.loop-low.invariant.1)

pub loop-low-preserved-then-table-middle : goal.loop-low-preserved-then-table-middle
loop-low-preserved-then-table-middle c =
    let i = c.loop-low.invariant in
    (omega arith, i.1, from-entry c.args.table.now c.requires.0 ((c.loop-low.low + c.loop-low.high) / 2) c.args.n (omega (arith, i.1)) c.if-table-middle.true, i.3)

pub loop-low-preserved : goal.loop-low-preserved
loop-low-preserved c =
    let i = c.loop-low.invariant in
    (omega arith, omega (arith, i.1), i.2, before-entry c.args.table.now c.requires.0 ((c.loop-low.low + c.loop-low.high) / 2) c.args.n (omega (arith, i.1)) c.if-table-middle.false)

pub returns : goal.returns
returns c =
    let i = c.loop-low.invariant in
    let e : c.loop-low.high ≡ c.loop-low.low + 1 = omega (arith, i.0) in
    sym (sixteenths-only c.args.n c.requires.1 c.requires.2 c.loop-low.low (record { reached = i.2; next = rw e at i.3 }))
