-- `images::raise` meets its contract: with 32,768 more the count is its raised number.
use native.Mathlib.Omega.{arith}
use mir.Syntax.{w32}
use mir.Facts.{to_z-of_z, sfits_widen}
use Rattle.images.proofs.Signs.{raised-sum, raised_below, over-fits}
use Rattle.images.proofs.raise.Goals as goal

pub overflow_cast-result : goal.overflow_cast-result
overflow_cast-result c = rw (to_z-of_z c.ranges.count) (sfits_widen tt c.ranges.count)

pub overflow_add-result : goal.overflow_add-result
overflow_add-result c =
    let f = c.ranges.count in
    let h = raised_below c.args.count f in
    rw (to_z-of_z f, to_z-of_z (sfits_widen {w' = w32} tt f), raised-sum c.args.count f) (record { sfits = omega arith })

pub overflow_cast-result-2 : goal.overflow_cast-result-2
overflow_cast-result-2 c =
    let f = c.ranges.count in
    let h = raised_below c.args.count f in
    rw (to_z-of_z f, to_z-of_z (sfits_widen {w' = w32} tt f), raised-sum c.args.count f, to_z-of_z (over-fits _ h)) (tt, record { fits = h })

pub returns : goal.returns
returns c =
    let f = c.ranges.count in
    rw (to_z-of_z f, to_z-of_z (sfits_widen {w' = w32} tt f), raised-sum c.args.count f, to_z-of_z (over-fits _ (raised_below c.args.count f)))
