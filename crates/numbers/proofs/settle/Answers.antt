-- `numbers::settle` meets its contract.
use Rattle.lists.proofs.Prelude.{refl}
use Rattle.numbers.specs.Images.{imaged}
use Rattle.numbers.proofs.Told.{number-refused}
use Rattle.numbers.proofs.settle.Goals as goal

pub returns-in-Err : goal.returns-in-Err
returns-in-Err c = rw (c.in-Err.is, c.from.ensures) (number-refused _, refl)

pub returns-in-Ok : goal.returns-in-Ok
unfolding imaged
returns-in-Ok c = rw c.in-Ok.is (refl, c.write_state.ensures)
