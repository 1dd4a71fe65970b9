-- Refused means unchanged, for a removal of several windows.
use mathlib.Core.List.{List}
use Prim.Native.Nat.{ℕ}
use Rattle.answers.specs.Unchanged.{Unchanged}
use Rattle.answers.proofs.Kept.{unchanged-if, unchanged-turn}
use Rattle.state.specs.Probe.{Store}
use Rattle.removals.specs.Removal.{remove_of}
use Rattle.batches.specs.Batch.{remove_all_of}

pub batch-unchanged : (p : Store) (ws : List ℕ) → Unchanged p (remove_all_of p ws)
unfolding remove_all_of
batch-unchanged p ws = unchanged-if _ 1 _ (unchanged-if _ 2 _ (unchanged-if _ 3 _ (unchanged-if _ 16 _ (unchanged-turn remove_of p ws))))
