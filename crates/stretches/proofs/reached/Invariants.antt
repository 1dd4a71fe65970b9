-- `stretches::reached` meets its contract. The invariant: those found are the ones so far that reach the stretch.
use Rattle.lists.proofs.Prelude.{◌≡◌, take, keep}
use Rattle.state.specs.Views.{finished, partitions_of}
use Rattle.stretches.specs.Reached.{reaches}
use Rattle.stretches.proofs.reached.Given as goal

abbrev pub invariant-loop-p : goal.invariant-loop-p
invariant-loop-p l = l.found ≡ partitions_of (keep (reaches l.t) (take l.p-index (finished l.fn.ps)))
