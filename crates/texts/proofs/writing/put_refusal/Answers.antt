-- `texts::writing::put_refusal` meets its contract.
use Rattle.lists.proofs.Prelude.{arith}
use Rattle.texts.specs.Texts.{answer_text}
use Rattle.texts.proofs.Appending.{wrote_then, says_all}
use Rattle.texts.proofs.writing.put_refusal.Goals as goal

pub returns : goal.returns
unfolding answer_text
returns c =
    let x = c.put_byte in
    let w = c.put_number-number in
    let v = c.put_byte-mark in
    rw (← c.from.ensures)
    (says_all (wrote_then v.ensures (wrote_then w.ensures.0 x.ensures)) (omega (arith, v.ensures.count, w.ensures.1, x.ensures.count, c.requires)))
