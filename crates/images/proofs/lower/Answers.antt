-- `images::lower` meets its contract.
use Rattle.lists.proofs.Prelude.{◌<◌, arith}
use mir.Syntax.{w16, w32}
use mir.Facts.{to_z-of_z, to_z_pos, sfits_widen}
use Rattle.images.proofs.Signs.{lowered-sum, lowered-fits}
use Rattle.images.proofs.lower.Goals as goal

pub overflow_sub-result : goal.overflow_sub-result
overflow_sub-result c =
    let h : c.args.x < 65536 = omega arith in
    rw (to_z_pos w32 {n = c.args.x} (omega arith), lowered-sum c.args.x) (sfits_widen {w = w16} tt (lowered-fits c.args.x h))

pub overflow_cast-result-2 : goal.overflow_cast-result-2
overflow_cast-result-2 c =
    let h : c.args.x < 65536 = omega arith in
    let f = lowered-fits c.args.x h in
    rw (to_z_pos w32 {n = c.args.x} (omega arith), lowered-sum c.args.x, to_z-of_z (sfits_widen {w' = w32} tt f)) f

pub returns : goal.returns
returns c =
    let h : c.args.x < 65536 = omega arith in
    let f = lowered-fits c.args.x h in
    rw (to_z_pos w32 {n = c.args.x} (omega arith), lowered-sum c.args.x, to_z-of_z (sfits_widen {w' = w32} tt f), to_z-of_z f)
