-- `identifiers::find` meets its contract. The loop's invariant: the number is that of the place reached and that among the identifiers to come.
use Rattle.lists.proofs.Prelude.{◌≡◌, ◌+◌, drop}
use Rattle.identifiers.specs.Names.{number_of}
use Rattle.identifiers.specs.Register.{names}
use Rattle.identifiers.proofs.find.Given as goal

abbrev pub invariant-loop-i : goal.invariant-loop-i
invariant-loop-i l = number_of (names l.register) l.id ≡ l.i + number_of (drop l.i (names l.register)) l.id
