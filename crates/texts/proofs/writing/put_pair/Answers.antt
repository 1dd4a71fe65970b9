-- `texts::writing::put_pair` meets its contract.
use Rattle.lists.proofs.Prelude.{arith}
use Rattle.texts.proofs.Appending.{wrote_then}
use Rattle.texts.proofs.writing.put_pair.Goals as goal

pub returns : goal.returns
returns c =
    let x = c.put_byte in
    let w = c.put_number-second in
    let v = c.put_byte-space in
    let u = c.put_number-first in (
      wrote_then u.ensures.0 (wrote_then v.ensures (wrote_then w.ensures.0 x.ensures)),
      omega (arith, u.ensures.1, v.ensures.count, w.ensures.1, x.ensures.count),
    )
