-- `recordings::all_zero_after` meets its contract. The loop's invariant: the answer is that for the entries to come.
use Rattle.lists.proofs.Prelude.{◌≡◌, drop, every}
use Rattle.identifiers.specs.Register.{entries}
use Rattle.recordings.specs.Recording.{zero_after}
use Rattle.recordings.proofs.all_zero_after.Given as goal

abbrev pub invariant-loop-i : goal.invariant-loop-i
invariant-loop-i l = every zero_after (entries l.plan) ≡ every zero_after (drop l.i (entries l.plan))
