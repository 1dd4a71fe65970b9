-- `forecasts::judge_open` meets its contract.
use Rattle.lists.proofs.Prelude.{◌≤◌, ◌<◌, arith, eq-eqb, ne_eqb, le-leb, lt-leb}
use Rattle.forecasts.proofs.judge_open.Goals as goal

pub returns-then-w-ne0 : goal.returns-then-w-ne0
returns-then-w-ne0 c = rw (ne_eqb c.args.w.current 0 c.if-w-ne0.true)

pub returns-then-w-eq65535 : goal.returns-then-w-eq65535
returns-then-w-eq65535 c =
    let w = c.args.w in
    let h : 65535 ≤ w.last = omega (arith, c.if-w-eq65535.true) in
    rw (eq-eqb w.current 0 c.if-w-ne0.false, le-leb 65535 w.last h)

pub returns : goal.returns
returns c =
    let w = c.args.w in
    let h : w.last < 65535 = omega (arith, c.if-w-eq65535.false, c.struct_known-2-1.given) in
    rw (eq-eqb w.current 0 c.if-w-ne0.false, lt-leb 65535 w.last h)
