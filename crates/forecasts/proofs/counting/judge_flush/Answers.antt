-- `forecasts::counting::judge_flush` meets its contract.
use Rattle.lists.proofs.Prelude.{◌*◌, suc, ◌≤◌, ◌<◌, arith, le-leb, lt-leb, lt-ltb, le-ltb, not-true, not-false}
use Rattle.forecasts.proofs.counting.judge_flush.Goals as goal

pub returns-then-not-wanted : goal.returns-then-not-wanted
returns-then-not-wanted c = rw (not-true c.args.wanted c.if-not-wanted.true-raw)

pub returns-then-low-ge16 : goal.returns-then-low-ge16
returns-then-low-ge16 c =
    let a = c.args in
    let h : 16 ≤ a.low = omega (arith, c.if-low-ge16.true) in
    rw (not-false a.wanted c.if-not-wanted.false-raw, le-leb 16 a.low h)

pub returns-then-blocks-card : goal.returns-then-blocks-card
returns-then-blocks-card c =
    let a = c.args in
    let h : a.low < 16 = omega (arith, c.if-low-ge16.false) in
    let g : a.card < 2 * suc a.blocks = omega (arith, c.if-blocks-card.true) in
    rw (not-false a.wanted c.if-not-wanted.false-raw, lt-leb 16 a.low h, lt-ltb a.card (2 * suc a.blocks) g)

pub returns : goal.returns
returns c =
    let a = c.args in
    let h : a.low < 16 = omega (arith, c.if-low-ge16.false) in
    let g : 2 * suc a.blocks ≤ a.card = omega (arith, c.if-blocks-card.false) in
    rw (not-false a.wanted c.if-not-wanted.false-raw, lt-leb 16 a.low h, le-ltb a.card (2 * suc a.blocks) g)
