-- `commands::double` meets its contract.
use Rattle.lists.proofs.Prelude.{arith}
use Rattle.commands.proofs.Orders.{counts, removes, asks, unknown, none-double}
use Rattle.commands.proofs.double.Goals as goal

pub returns-in-69 : goal.returns-in-69
returns-in-69 c = counts _ _ c.in-69.is

pub returns-in-82 : goal.returns-in-82
returns-in-82 c = removes _ _ _ c.in-82.is c.removal.ensures

pub returns-in-81 : goal.returns-in-81
returns-in-81 c = asks _ _ _ _ c.in-81.is c.asking.ensures

pub returns-in_default : goal.returns-in_default
returns-in_default c = unknown _ _ (none-double _ _ (λ e. omega arith) (λ e. omega arith) (λ e. omega arith))
