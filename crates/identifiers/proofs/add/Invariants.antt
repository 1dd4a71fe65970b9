-- `identifiers::add` meets its contract. The loop's invariant: the bytes to come, stored after those that are, are the whole run of stores.
use Rattle.lists.proofs.Prelude.{◌≡◌, ◌+◌, drop, sets}
use Rattle.identifiers.proofs.add.Given as goal

abbrev pub invariant-loop-i : goal.invariant-loop-i
invariant-loop-i l = sets l.initial.register (l.start + 1) l.id ≡ sets l.register (l.start + 1 + l.i) (drop l.i l.id)
