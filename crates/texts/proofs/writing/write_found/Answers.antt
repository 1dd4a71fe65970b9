-- `texts::writing::write_found` meets its contract.
use Rattle.texts.proofs.writing.write_found.Goals as goal

pub put_found-requires : goal.put_found-requires
put_found-requires c = (c.requires.0, rw c.in-Ok.is at c.requires.1)

pub returns-in-Ok : goal.returns-in-Ok
returns-in-Ok c = rw c.in-Ok.is c.put_found.ensures

pub returns-in-Err : goal.returns-in-Err
returns-in-Err c = rw c.in-Err.is c.put_refusal.ensures
