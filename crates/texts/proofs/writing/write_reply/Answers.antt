-- `texts::writing::write_reply` meets its contract.
use Rattle.texts.specs.Texts.{answer_text, decimal, decimal_in}
use Rattle.texts.proofs.writing.write_reply.Goals as goal

pub returns-in-Ok : goal.returns-in-Ok
unfolding answer_text decimal decimal_in
returns-in-Ok c = rw c.in-Ok.is c.put_line.ensures

pub returns-in-Err : goal.returns-in-Err
unfolding answer_text
returns-in-Err c = rw c.in-Err.is c.put_refusal.ensures
