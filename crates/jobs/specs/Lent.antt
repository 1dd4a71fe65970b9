-- What a step is lent beside state and card: the record of the merge in progress.
use Rattle.std.specs.Prelude.{Bool, ◌&&◌, not, List, ℕ, eqb}
use Rattle.answers.specs.Answers.{Outcome, refuse_if, carry}
use Rattle.state.specs.declared.MergeJob.{MergeJob}
use Rattle.state.specs.declared.State.{State}
use Rattle.state.specs.Probe.{Store}
use Rattle.plans.specs.Step.{step_of}

-- what a step is lent: state and card, and beside them the record of the merge in progress
pub record Lent : Type 0 where
  pub store : Store
  pub job : MergeJob

abbrev pub lent_of : State → List ℕ → MergeJob → Lent
lent_of s card job = record { store = record { state = s; card = card }; job = job }

-- with the state's own record
abbrev pub with_own : Store → Lent
with_own p = record { store = p; job = p.state.merge }

-- are two records the same
abbrev pub same_record : MergeJob → MergeJob → Bool
same_record a b = eqb a.first b.first && (eqb a.length b.length && eqb a.steps b.steps)

-- refusal 1 before all else: the record lent is not the state's own. Otherwise the step of state and card, with the record moved on as the state's own is
unfoldable pub lent_step_of : Lent → Outcome Lent
lent_step_of l = refuse_if (not (same_record l.job l.store.state.merge)) 1 (carry with_own (step_of l.store))
