-- `rules::id_rules::all_differ` meets its contract. The invariant: what is told of all is told of those from the place on.
use Rattle.lists.proofs.Prelude.{◌≡◌, drop, different}
use Rattle.state.specs.Views.{listed}
use Rattle.rules.proofs.id_rules.all_differ.Given as goal

abbrev pub invariant-loop-i : goal.invariant-loop-i
invariant-loop-i l = different (listed l.fn.l) ≡ different (drop l.i (listed l.fn.l))
