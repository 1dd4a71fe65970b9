-- `numbers::settle_open` meets its contract.
use mir.Syntax.{w16}
use mir.Val.{Fits}
use Rattle.lists.proofs.Prelude.{refl, arith, rules}
use Rattle.numbers.specs.Images.{imaged}
use Rattle.answers.proofs.Refusals.{number-within}
use Rattle.numbers.proofs.Told.{opened-number, opened-refused}
use Rattle.numbers.proofs.settle_open.Goals as goal

pub overflow_add-result : goal.overflow_add-result
overflow_add-result c = omega (arith, c.from.ensures, (number-within c.in-Err.why).1)

pub returns-in-Err : goal.returns-in-Err
returns-in-Err c = rw (c.in-Err.is, c.from.ensures) (opened-refused _, refl)

pub returns-in-Ok : goal.returns-in-Ok
unfolding imaged
returns-in-Ok c =
    let f : Fits w16 c.in-Ok.n = search rules in
    rw c.in-Ok.is (opened-number _ (omega (arith, f.fits)), c.write_state.ensures)
