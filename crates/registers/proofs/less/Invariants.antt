-- `registers::less` meets its contract. The loop's invariant: the words passed are equal.
use Rattle.lists.proofs.Prelude.{◌≡◌, drop}
use Rattle.registers.specs.Order.{lower, key}
use Rattle.registers.proofs.less.Given as goal

abbrev pub invariant-loop-c : goal.invariant-loop-c
invariant-loop-c l = lower (key l.a) (key l.b) ≡ lower (drop l.c (key l.a)) (drop l.c (key l.b))
