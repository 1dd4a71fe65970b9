-- `texts::writing::write_opened` meets its contract.
use Rattle.texts.specs.Texts.{answer_text}
use Rattle.texts.proofs.writing.write_opened.Goals as goal

pub returns-in-Ok : goal.returns-in-Ok
unfolding answer_text
returns-in-Ok c = rw c.in-Ok.is c.put_line.ensures

pub returns-in-Err : goal.returns-in-Err
unfolding answer_text
returns-in-Err c = rw c.in-Err.is c.put_refusal.ensures
