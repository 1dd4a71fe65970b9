-- A step that is not refused: what is known before it writes, and the state that it leaves.
use Rattle.std.specs.Prelude.{Result, MatchResult, Bool, true, cond, not, ◌&&◌, ◌||◌, List, [], ◌∷◌, ◌++◌, map, ◌≡◌, ℕ, suc, ◌+◌, ◌*◌, ◌<◌, ◌≤◌, eqb, leb, length, get_or, take, drop}
use Rattle.lists.specs.Lists.{different}
use Rattle.words.specs.Words.{words, bytes, all_ones}
use Rattle.postings.specs.declared.Posting.{Posting}
use Rattle.postings.specs.Merge.{nonzero}
use Rattle.answers.specs.declared.Refusal.{Refusal}
use Rattle.answers.specs.Answers.{Outcome, refuse_if, done, refused}
use Rattle.answers.specs.Numbers.{refusal_number}
use Rattle.state.specs.declared.Partition.{Partition}
use Rattle.state.specs.declared.Partitions.{Partitions}
use Rattle.state.specs.declared.MergeJob.{MergeJob}
use Rattle.state.specs.declared.State.{State}
use Rattle.state.specs.Rules.{state_rule}
use Rattle.state.specs.Views.{padded, no_merge, blocks, finished, partitions_of, with_partitions, with_taken, with_merge}
use Rattle.state.specs.Probe.{Store}
use Rattle.state.specs.Levels.{next_level, due_levels, replaced}
use Rattle.card.specs.Blocks.{no_block}
use Rattle.card.specs.Chains.{blocks_for, chain, chain_rule, content}
use Rattle.card.specs.Cursors.{Chained}
use Rattle.partitions.specs.Layout.{total_length, header, word_of}
use Rattle.partitions.specs.Formed.{partitions_formed, chains_of}
use Rattle.inputs.specs.declared.Totals.{Totals}
use Rattle.inputs.specs.declared.Batch.{Batch}
use Rattle.inputs.specs.Judging.{totals_of, counts_by_id, Small, all_in_range}
use Rattle.inputs.specs.Ahead.{batched}
use Rattle.drafts.specs.Drafted.{stands_apart}
use Rattle.outputs.specs.Contents.{written}
use Rattle.outputs.specs.Entries.{entries_onward}
use Rattle.windows.specs.Promises.{Gives, store_of}
use Rattle.plans.specs.declared.Output.{Output}
use Rattle.plans.specs.declared.Plan.{Plan}
use Rattle.plans.specs.Merging.{due_in, inputs, taking, result, output_blocks, output_level, progress, is_last}
use Rattle.plans.specs.Step.{in_progress, output_rule, step_formed, written_on, stepping}

-- the output stands on n blocks from b on: they are a chain, in no finished partition, and hold what the steps done have written
pub record Drafted (W : List ℕ) (s : State) (ps : List Posting) (b n : ℕ) : Type 0 where
  pub rule : chain_rule W (blocks s) b n ≡ true
  pub apart : different (chain W b n ++ chains_of W (finished s.partitions)) ≡ true
  pub full : content W (chain W b n) ≡ padded (1023 * n) all_ones (progress ps s.merge.steps)

-- the blocks of a merge's output in progress, by its record, are a chain apart from those of the finished partitions fin; an output of no bytes has none
unfoldable pub stands_on : List ℕ → ℕ → MergeJob → List Partition → Bool
stands_on W n job fin =
    (eqb job.steps 0 || eqb (blocks_for job.length) 0)
    || (chain_rule W n job.first (blocks_for job.length) && stands_apart W job.first (blocks_for job.length) fin)

abbrev pub standing : List ℕ → State → Bool
standing W s = stands_on W (blocks s) s.merge (finished s.partitions)

-- the inputs as they are judged: on a card that fits the state, all finished partitions well formed, the sums in range, and their totals told
pub record Judged (W : List ℕ) (s : State) (is : Partitions) (t : Totals) : Type 0 where
  pub long : length W ≡ 1024 * blocks s
  pub few : blocks s ≤ 4096
  pub used : s.partitions.used ≤ 51
  pub form : length s.partitions.records ≡ 51 → s.partitions ≡ partitions_of (finished s.partitions)
  pub formed : partitions_formed W (blocks s) (finished s.partitions) ≡ true
  pub are : is ≡ partitions_of (inputs s)
  pub range : all_in_range (taking W s) ≡ true
  pub totals : t ≡ totals_of (taking W s)
  pub small : Small t

-- what a step writes: the output's blocks, which stand there with what was written before, and the sums that come next
pub record Acts (W : List ℕ) (s : State) (o : Output) (b : Batch) : Type 0 where
  pub blocks : o.blocks ≡ output_blocks (result (taking W s))
  pub none : o.blocks ≡ 0 → o.first ≡ no_block
  pub draft : 0 < o.blocks → Drafted W s (taking W s) o.first o.blocks
  pub written : o.written ≡ length (nonzero (take (16 * s.merge.steps) (taking W s)))
  pub batch : batched b ≡ nonzero (take 16 (drop (16 * s.merge.steps) (taking W s)))
  pub few : b.used ≤ 16
  pub last : leb (length (taking W s)) (16 * s.merge.steps + b.taken) ≡ is_last (taking W s) (suc s.merge.steps)

-- there is room on the output's blocks for a step's sums, and for header and entries, where ns says how many postings each identifier has
pub record Fits (W : List ℕ) (t : Totals) (ns : List ℕ) (o : Output) (b : Batch) : Type 0 where
  pub some : 0 < o.blocks
  pub chained : Chained W o.first o.blocks
  pub written : o.written ≤ 67108864
  pub few : b.used ≤ 16
  pub range : all_in_range (batched b) ≡ true
  pub room : 8 + 3 * t.terms + o.written + length (batched b) ≤ 1023 * o.blocks
  pub small : Small t
  pub long : length ns ≡ 1024
  pub entries : 8 + length (entries_onward 0 0 ns) ≤ 1023 * o.blocks

-- the sums of a step, after those that were written before
abbrev pub with_sums : List ℕ → Totals → Output → Batch → List ℕ
with_sums W t o b = written W (chain W o.first o.blocks) (8 + 3 * t.terms + o.written) (map word_of (batched b))

-- header and entries, before the postings
abbrev pub with_front : List ℕ → ℕ → Totals → List ℕ → Output → List ℕ
with_front W level t ns o =
    written (written W (chain W o.first o.blocks) 0 (header level t.terms t.postings t.lowest t.highest)) (chain W o.first o.blocks) 8 (entries_onward 0 0 ns)

-- the output's words that a step writes: with header and entries after the last
abbrev pub output_written : List ℕ → Bool → ℕ → Totals → List ℕ → Output → Batch → List ℕ
output_written W last level t ns o b = cond last (with_front (with_sums W t o b) level t ns o) (with_sums W t o b)

-- the length of the output, by the totals
abbrev pub length_from : Totals → ℕ
length_from t = cond (eqb t.postings 0) 0 (total_length t.terms t.postings)

-- the result as a partition, by the totals, where fin are the finished partitions
abbrev pub record_from : List Partition → Totals → Output → List Partition
record_from fin t o =
    cond (eqb t.postings 0) []
    (record {
      first = o.first;
      level = next_level (get_or (due_levels (λ (p : Partition). p.level) fin) 0 0);
      length = length_from t;
      lowest = t.lowest;
      highest = t.highest;
    }
    ∷ [])

-- the state after the step, by the totals
unfoldable pub next_state : State → Bool → Totals → Output → State
next_state s last t o =
    with_taken
    (cond last
    (with_merge (with_partitions s (partitions_of (replaced (λ (p : Partition). p.level) (due_in s) (finished s.partitions) (record_from (finished s.partitions) t o)))) no_merge)
    (with_merge s (record { first = o.first; length = length_from t; steps = suc s.merge.steps })))
    o.taken

-- ---- the step planned, and then done

-- what a step that is not refused writes from: its inputs as they are judged, with how many postings each identifier has, and what it does
pub record Due (W : List ℕ) (s : State) (is : Partitions) (t : Totals) (ns : List ℕ) (o : Output) (b : Batch) : Type 0 where
  pub judged : Judged W s is t
  pub counts : ns ≡ counts_by_id (taking W s)
  pub acts : Acts W s o b

-- some state is at that step and level
pub record Doing (W : List ℕ) (is : Partitions) (t : Totals) (ns : List ℕ) (o : Output) (b : Batch) (j v : ℕ) : Type 0 where
  pub state : State
  pub due : Due W state is t ns o b
  pub steps : j ≡ state.merge.steps
  pub level : v ≡ output_level state

-- the step is written, for whatever state is: whether it is the last, and the card
pub record Did (W : List ℕ) (is : Partitions) (t : Totals) (ns : List ℕ) (o : Output) (b : Batch) (j v : ℕ) (r : Bool) (after : List ℕ) : Type 0 where
  pub last : (s : State) → Due W s is t ns o b → j ≡ s.merge.steps → r ≡ is_last (taking W s) (suc s.merge.steps)
  pub card : (s : State) → Due W s is t ns o b → j ≡ s.merge.steps → v ≡ output_level s
      → after ≡ bytes (written_on W s (taking W s) (suc s.merge.steps) (chain W o.first o.blocks))

-- the outcome of a step whose inputs are well formed
abbrev pub step_going_on : State → List ℕ → Outcome Store
step_going_on s W = refuse_if (in_progress s && not (output_rule W s (taking W s))) 3 (stepping s W (taking W s))

-- the step that refusals 1 and 2 let through, with refusal 3
abbrev pub third_on : State → List ℕ → Outcome Store
third_on s card = refuse_if (not (step_formed (words card) s)) 3 (stepping s (words card) (taking (words card) s))

-- state, card, finished partitions and the output's blocks are judged; is are the inputs, and v is the output's level
pub record Admitted (s : State) (card : List ℕ) (is : Partitions) (v : ℕ) : Type 0 where
  pub rule : state_rule s ≡ true
  pub size : length card ≡ s.lengths.card
  pub formed : partitions_formed (words card) (blocks s) (finished s.partitions) ≡ true
  pub stands : standing (words card) s ≡ true
  pub are : is ≡ partitions_of (inputs s)
  pub level : v ≡ output_level s

-- a plan for a step from a card, and the card once the output's blocks are there. A plan that is ready: the step is done by what it says
pub record Ready (s : State) (is : Partitions) (t : Totals) (card : List ℕ) (p : Plan) (linked : List ℕ) : Type 0 where
  pub pairs : taking (words linked) s ≡ taking (words card) s
  pub judged : Judged (words linked) s is t
  pub acts : Acts (words linked) s p.output p.batch
  pub early : s.merge.steps < 4294967295
  pub done : (end : Store) → end.state ≡ next_state s (is_last (taking (words card) s) (suc s.merge.steps)) t p.output
      → end.card ≡ bytes (written_on (words linked) s (taking (words linked) s) (suc s.merge.steps) (chain (words linked) p.output.first p.output.blocks))
      → Gives (store_of s card) (step_going_on s (words card)) done end

-- where there is none, the step is refused, and the card stays
pub record Barred (s : State) (card : List ℕ) (why : Refusal) (linked : List ℕ) : Type 0 where
  pub same : linked ≡ card
  pub told : Gives (store_of s card) (step_going_on s (words card)) (refused (refusal_number why)) (store_of s card)

abbrev pub Planned : State → Partitions → Totals → List ℕ → Result Plan Refusal → List ℕ → Type 0
Planned s is t card r linked = MatchResult r (λ p. Ready s is t card p linked) (λ why. Barred s card why linked)
