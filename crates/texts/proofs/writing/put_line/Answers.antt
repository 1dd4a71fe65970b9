-- `texts::writing::put_line` meets its contract.
use Rattle.lists.proofs.Prelude.{arith}
use Rattle.texts.proofs.Appending.{wrote_then, says_all}
use Rattle.texts.proofs.writing.put_line.Goals as goal

pub returns : goal.returns
returns c =
    let x = c.put_byte in
    let u = c.put_number-number in
    says_all (wrote_then u.ensures.0 x.ensures) (omega (arith, u.ensures.1, x.ensures.count, c.requires))
