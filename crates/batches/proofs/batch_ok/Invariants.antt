-- `batches::batch_ok` meets its contract. The invariant: the windows passed are not named again, so that those from the place reached decide.
use Rattle.lists.proofs.Prelude.{◌≡◌, drop, different}
use Rattle.batches.proofs.batch_ok.Given as goal

abbrev pub invariant-loop-i : goal.invariant-loop-i
invariant-loop-i l = different l.fn.named ≡ different (drop l.i l.fn.named)
