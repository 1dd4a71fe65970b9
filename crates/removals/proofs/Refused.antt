-- Refused means unchanged, for a removal.
use Prim.Native.Nat.{ℕ}
use Rattle.answers.specs.Unchanged.{Unchanged}
use Rattle.answers.proofs.Kept.{unchanged-if, unchanged-done}
use Rattle.state.specs.Probe.{Store}
use Rattle.flushes.proofs.Refused.{unchanged-flushing-if}
use Rattle.removals.specs.Removal.{removing, remove_of}

pub removal-unchanged : (p : Store) (w : ℕ) → Unchanged p (remove_of p w)
unfolding remove_of removing
removal-unchanged p w =
    unchanged-if _ 1 _
    (unchanged-if _ 2 _
    (unchanged-if _ 3 _ (unchanged-if _ 5 _ (unchanged-if _ 7 _ (unchanged-flushing-if _ _ _ (λ t after. unchanged-done _) _)))))
