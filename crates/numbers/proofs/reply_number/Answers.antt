-- `numbers::reply_number` meets its contract.
use Rattle.numbers.proofs.Told.{number-refused}
use Rattle.numbers.proofs.reply_number.Goals as goal

pub returns-in-Err : goal.returns-in-Err
returns-in-Err c = rw (c.in-Err.is, c.from.ensures) (number-refused _)
