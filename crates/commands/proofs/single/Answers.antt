-- `commands::single` meets its contract.
use Rattle.lists.proofs.Prelude.{arith}
use Rattle.commands.proofs.Orders.{opens, closes, flushes, steps, unknown, none-alone}
use Rattle.commands.proofs.single.Goals as goal

pub returns-in-79 : goal.returns-in-79
returns-in-79 c = opens _ c.in-79.is

pub returns-in-67 : goal.returns-in-67
returns-in-67 c = closes _ c.in-67.is

pub returns-in-70 : goal.returns-in-70
returns-in-70 c = flushes _ c.in-70.is

pub returns-in-77 : goal.returns-in-77
returns-in-77 c = steps _ c.in-77.is

pub returns-in_default : goal.returns-in_default
returns-in_default c = unknown _ _ (none-alone _ (λ e. omega arith) (λ e. omega arith) (λ e. omega arith) (λ e. omega arith))
