-- `forecasts::naming::find_new` meets its contract. The loop's invariant: the number is that of the place reached and that among the identifiers to come.
use Rattle.lists.proofs.Prelude.{map, ◌≡◌, ◌+◌, take, drop}
use Rattle.identifiers.specs.Names.{number_of}
use Rattle.forecasts.specs.Sketches.{identifier_at}
use Rattle.forecasts.proofs.naming.find_new.Given as goal

abbrev pub invariant-loop-i : goal.invariant-loop-i
invariant-loop-i l =
    number_of (map (identifier_at l.fn.plan) (take l.fn.known l.fn.places)) l.fn.id ≡ l.i + number_of (drop l.i (map (identifier_at l.fn.plan) (take l.fn.known l.fn.places))) l.fn.id
