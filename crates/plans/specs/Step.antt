-- A merge step: what it answers and leaves, for every input.
use Rattle.std.specs.Prelude.{Bool, ◌||◌, ◌&&◌, not, cond, List, [], ◌∷◌, ◌++◌, ℕ, suc, ◌*◌, eqb, ltb, length, get_or, take}
use Rattle.lists.specs.Lists.{every, empty, different, same}
use Rattle.words.specs.Words.{words, bytes, all_ones}
use Rattle.postings.specs.declared.Posting.{Posting}
use Rattle.answers.specs.Answers.{Outcome, leave, done}
use Rattle.answers.specs.Order as order
use Rattle.answers.specs.Order.{admit}
use Rattle.state.specs.declared.Partition.{Partition}
use Rattle.state.specs.declared.MergeJob.{MergeJob}
use Rattle.state.specs.declared.State.{State}
use Rattle.state.specs.Views.{padded, no_merge, blocks, finished, partitions_of, with_partitions, with_taken, with_merge}
use Rattle.state.specs.Levels.{replaced}
use Rattle.state.specs.Rules.{state_rule}
use Rattle.state.specs.Probe.{Store, has_length}
use Rattle.card.specs.Blocks.{no_block, free_blocks}
use Rattle.card.specs.Chains.{chain, chain_rule, content}
use Rattle.blocks.specs.Writes.{store, release}
use Rattle.partitions.specs.Formed.{partitions_formed, chains_of, lists_rule, in_range}
use Rattle.plans.specs.Merging.{due_in, inputs, taking, result, output_length, output_blocks, progress, is_last, output_record, output_content}

-- is a merge in progress
abbrev pub in_progress : State → Bool
in_progress s = not (eqb s.merge.steps 0)

-- the blocks of the output in progress
abbrev pub output_chain : List ℕ → State → List Posting → List ℕ
output_chain W s ps = chain W s.merge.first (output_blocks (result ps))

-- refusal 3, for the output in progress: pairs are left to take; its length is the result's; an empty result has no block; else its chain is whole, in
-- blocks of no finished partition, and its content is what the inputs give so far and then 255
unfoldable pub output_rule : List ℕ → State → List Posting → Bool
output_rule W s ps =
    not (is_last ps s.merge.steps)
    && (eqb s.merge.length (output_length (result ps))
    && cond (empty (result ps)) (eqb s.merge.first no_block)
    (chain_rule W (blocks s) s.merge.first (output_blocks (result ps))
    && (different (output_chain W s ps ++ chains_of W (finished s.partitions))
    && same (content W (output_chain W s ps)) (padded (1023 * output_blocks (result ps)) all_ones (progress ps s.merge.steps)))))

-- refusal 3: all finished partitions, the inputs' lists, the sums of their pairs, and the output in progress
unfoldable pub step_formed : List ℕ → State → Bool
step_formed W s =
    partitions_formed W (blocks s) (finished s.partitions)
    && (every (lists_rule W) (inputs s)
    && (every (λ p. in_range p.count) (taking W s) && (not (in_progress s) || output_rule W s (taking W s))))

-- the output's blocks: those it has, or the next free ones as a merge begins
unfoldable pub output_chain_on : List ℕ → State → List Posting → List ℕ
output_chain_on W s ps =
    cond (in_progress s) (output_chain W s ps) (take (output_blocks (result ps)) (free_blocks W (blocks s) s.taken))

-- the block last taken, after these were
abbrev pub last_of : ℕ → List ℕ → ℕ
last_of t [] = t
last_of t (b ∷ bs) = last_of b bs

-- the list of partitions after the last step: the result, which begins the blocks bs, in its inputs' place
abbrev pub partitions_after : State → List Posting → List ℕ → List Partition
partitions_after s ps bs = replaced (λ (p : Partition). p.level) (due_in s) (finished s.partitions) (output_record s (result ps) (get_or bs 0 no_block))

-- the record of the merge after step j, another than the last
abbrev pub job_after : List Posting → ℕ → List ℕ → MergeJob
job_after ps j bs = record { first = get_or bs 0 no_block; length = output_length (result ps); steps = j }

-- the block last taken: the first step takes all output blocks, the others none
abbrev pub taken_after : State → List ℕ → ℕ
taken_after s bs = cond (in_progress s) s.taken (last_of s.taken bs)

-- the state after step j with the output on blocks bs: the last step puts the result in its inputs' place; any other keeps the merge's record
unfoldable pub stepped_on : State → List Posting → ℕ → List ℕ → State
stepped_on s ps j bs =
    with_taken
    (cond (is_last ps j) (with_merge (with_partitions s (partitions_of (partitions_after s ps bs))) no_merge) (with_merge s (job_after ps j bs)))
    (taken_after s bs)

-- the card after step j: the output's content on its blocks; the last step frees the inputs' blocks
unfoldable pub written_on : List ℕ → State → List Posting → ℕ → List ℕ → List ℕ
written_on W s ps j bs =
    cond (is_last ps j) (release (store W bs (output_content s ps j)) (chains_of W (inputs s))) (store W bs (output_content s ps j))

-- a merge that begins finds fewer free blocks than its output takes
abbrev pub few_free : List ℕ → State → List Posting → Bool
few_free W s ps = not (in_progress s) && ltb (length (free_blocks W (blocks s) s.taken)) (output_blocks (result ps))

-- no merge is in progress and no level is due
abbrev pub nothing_due : State → Bool
nothing_due s = not (in_progress s) && empty (due_in s)

-- the step that comes next
abbrev pub next_step : State → ℕ
next_step s = suc s.merge.steps

-- what follows refusals 1 to 3, where ps are the pairs of the inputs
unfoldable pub stepping : State → List ℕ → List Posting → Outcome Store
stepping s W ps =
    admit order.merging (few_free W s ps ∷ nothing_due s ∷ [])
    (leave done
    (record {
      state = stepped_on s ps (next_step s) (output_chain_on W s ps);
      card = bytes (written_on W s ps (next_step s) (output_chain_on W s ps));
    }))

unfoldable pub step_of : Store → Outcome Store
step_of p =
    admit order.step
    (not (state_rule p.state)
    ∷ not (has_length p.card p.state.lengths.card)
    ∷ not (step_formed (words p.card) p.state)
    ∷ [])
    (stepping p.state (words p.card) (taking (words p.card) p.state))
