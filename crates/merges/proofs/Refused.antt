-- Refused means unchanged, for a merge step.
use Rattle.answers.specs.Unchanged.{Unchanged}
use Rattle.answers.proofs.Kept.{unchanged-if, unchanged-done}
use Rattle.state.specs.Probe.{Store}
use Rattle.plans.specs.Step.{stepping, step_of}

pub step-unchanged : (p : Store) → Unchanged p (step_of p)
unfolding step_of stepping
step-unchanged p = unchanged-if _ 1 _ (unchanged-if _ 2 _ (unchanged-if _ 3 _ (unchanged-if _ 12 _ (unchanged-if _ 13 _ (unchanged-done _)))))
