-- `numbers::found_number` meets its contract.
use Rattle.numbers.proofs.found_number.Goals as goal

pub returns-in-Ok : goal.returns-in-Ok
returns-in-Ok c = rw c.in-Ok.is
