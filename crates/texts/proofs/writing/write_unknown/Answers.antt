-- `texts::writing::write_unknown` meets its contract.
use Rattle.lists.proofs.Prelude.{arith}
use Rattle.texts.specs.Texts.{unknown_text}
use Rattle.texts.proofs.Appending.{wrote_then, says_all}
use Rattle.texts.proofs.writing.write_unknown.Goals as goal

pub returns : goal.returns
unfolding unknown_text
returns c =
    let x = c.put_byte in
    let v = c.put_byte-mark in
    says_all (wrote_then v.ensures x.ensures) (omega (arith, v.ensures.count, x.ensures.count, c.requires))
