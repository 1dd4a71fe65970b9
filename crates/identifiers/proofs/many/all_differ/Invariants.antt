-- `identifiers::many::all_differ` meets its contract. The invariant: those before the place differ.
use Rattle.lists.proofs.Prelude.{true, ◌≡◌, map, take}
use Rattle.identifiers.specs.Names.{distinct}
use Rattle.identifiers.proofs.many.all_differ.Given as goal

abbrev pub invariant-loop-i : goal.invariant-loop-i
invariant-loop-i l = distinct (take l.i (map (λ x. x.now) l.ids)) ≡ true
