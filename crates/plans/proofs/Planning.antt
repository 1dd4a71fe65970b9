-- What a plan refuses for, and the state by its parts.
use Rattle.lists.proofs.Prelude.{Bool, true, cond, not, ◌&&◌, List, ◌≡◌, ℕ, suc, by-test}
use Rattle.state.specs.declared.MergeJob.{MergeJob}
use Rattle.state.specs.declared.Partition.{Partition}
use Rattle.state.specs.declared.Partitions.{Partitions}
use Rattle.state.specs.declared.State.{State}
use Rattle.state.specs.Views.{no_merge, blocks, finished, partitions_of, with_partitions, with_taken, with_merge}
use Rattle.state.specs.Levels.{replaced}
use Rattle.partitions.specs.Formed.{partitions_formed}
use Rattle.inputs.specs.declared.Totals.{Totals}
use Rattle.inputs.specs.Judging.{inputs_formed}
use Rattle.plans.specs.declared.Output.{Output}
use Rattle.plans.specs.Merging.{due_in, inputs, taking}
use Rattle.plans.specs.Step.{in_progress, output_rule, step_formed}
use Rattle.plans.specs.Acting.{length_from, record_from, next_state}
use Rattle.plans.proofs.Stepping.{formed-idle, formed-output}

-- a step whose inputs are well formed is refused with 3 for its output alone
pub formed-plan : (W : List ℕ) (s : State) → partitions_formed W (blocks s) (finished s.partitions) ≡ true → inputs_formed W (inputs s) ≡ true
    → not (step_formed W s) ≡ (in_progress s && not (output_rule W s (taking W s)))
formed-plan W s p i =
    by-test (in_progress s)
    (λ y. rw (formed-output W s p i y, y))
    (λ n. rw (formed-idle W s p i n, n))

-- the state by its parts
pub next-told : (s : State) (last : Bool) (t : Totals) (o : Output) (ps : Partitions) (m : MergeJob)
    → ps ≡ cond last (partitions_of (replaced (λ (p : Partition). p.level) (due_in s) (finished s.partitions) (record_from (finished s.partitions) t o))) s.partitions
    → m ≡ cond last no_merge (record { first = o.first; length = length_from t; steps = suc s.merge.steps })
    → with_merge (with_taken (with_partitions s ps) o.taken) m ≡ next_state s last t o
unfolding next_state
next-told s last t o ps m e f = by-test last (λ y. rw (e, f, y)) (λ n. rw (e, f, n))
