-- `probe::run` meets its contract: it is safe and ends.
use Prim.Native.Nat.{◌≤◌}
use Rattle.probe.proofs.run.Given as goal

abbrev pub invariant-loop : goal.invariant-loop
invariant-loop l = l.t.kept ≤ 513
