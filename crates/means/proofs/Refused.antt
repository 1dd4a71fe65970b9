-- Refused means unchanged, for the mean: nothing is lent to it that it could change.
use Rattle.answers.specs.Unchanged.{Unchanged}
use Rattle.answers.proofs.Kept.{unchanged-if, unchanged-mean}
use Rattle.state.specs.Probe.{Probe}
use Rattle.identifiers.specs.Names.{Name}
use Rattle.means.specs.Mean.{meaning, mean_of}

pub mean-unchanged : (p : Probe) (n : Name) → Unchanged tt (mean_of p n)
unfolding mean_of meaning
mean-unchanged p n =
    unchanged-if _ 1 _ (unchanged-if _ 2 _ (unchanged-if _ 3 _ (unchanged-if _ 4 _ (unchanged-if _ 15 _ (unchanged-mean _ _ _ _)))))
