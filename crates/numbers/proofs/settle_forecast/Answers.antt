-- `numbers::settle_forecast` meets its contract.
use Rattle.lists.proofs.Prelude.{refl}
use Rattle.numbers.proofs.settle_forecast.Goals as goal

pub returns-in-Err : goal.returns-in-Err
returns-in-Err c = rw (c.in-Err.is, c.from.ensures) (refl, refl)

pub returns-in-Ok : goal.returns-in-Ok
returns-in-Ok c = rw c.in-Ok.is (refl, c.put_course.ensures)
