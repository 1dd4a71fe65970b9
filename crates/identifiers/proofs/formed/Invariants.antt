-- `identifiers::formed` meets its contract. The loop's invariant: the answer is that for the entries to come.
use Rattle.lists.proofs.Prelude.{◌≡◌, drop}
use Rattle.identifiers.specs.Register.{entries}
use Rattle.identifiers.specs.Formed.{formed_from, formed}
use Rattle.identifiers.proofs.formed.Given as goal

abbrev pub invariant-loop-i : goal.invariant-loop-i
invariant-loop-i l = formed l.register ≡ formed_from l.ended (drop l.i (entries l.register))
