-- Where a flush writes, judged before anything is written.
use Rattle.std.specs.Prelude.{Option, Some, None, Result, Ok, Err}
use Rattle.answers.specs.declared.Refusal.{Refusal}
use Rattle.std.specs.Prelude.{Bool, true, ◌||◌, not, List, ◌≡◌, ℕ, suc, ◌*◌, ◌<◌, ◌≤◌, length, get_or}
use Rattle.lists.specs.Lists.{empty}
use Rattle.words.specs.Words.{words, bytes}
use Rattle.answers.specs.Answers.{Outcome, refuse, leave, done}
use Rattle.answers.specs.Numbers.{refusal_number}
use Rattle.state.specs.declared.Partition.{Partition}
use Rattle.state.specs.declared.State.{State}
use Rattle.state.specs.Views.{blocks, buffered, finished}
use Rattle.state.specs.Rules.{state_rule}
use Rattle.state.specs.Levels.{of_level}
use Rattle.state.specs.Probe.{Store, store_of}
use Rattle.card.specs.Blocks.{free_blocks}
use Rattle.flushes.specs.Flush.{finished_blocks, flushed_to, flushed_card, flushing_if, flush_of}

-- a block to write to, where the flush is judged: something is buffered, level 0 and the card have room, and the block is the first free one
pub record Chosen (s : State) (W : List ℕ) (b : ℕ) : Type 0 where
  pub some : 1 ≤ length (buffered s.buffer)
  pub room : of_level (λ (p : Partition). p.level) 0 (finished s.partitions) < 16
  pub half : 2 * suc (finished_blocks s) ≤ blocks s
  pub there : 1 ≤ length (free_blocks W (blocks s) s.taken)
  pub block : b ≡ get_or (free_blocks W (blocks s) s.taken) 0 0

-- what follows a flush that stands alone
abbrev pub written : State → List ℕ → Outcome Store
written s card = leave done (store_of s card)

-- a target tells what a flush, where one is wanted, comes to: its refusal; nothing to write, as none is wanted or the buffer is empty; or the block
-- that it is written to
abbrev pub Aimed : Bool → State → List ℕ → Result (Option ℕ) Refusal → Type 0
Aimed wanted s card (Err why) = flushing_if wanted s card written ≡ refuse (refusal_number why)
Aimed wanted s card (Ok None) = (flushing_if wanted s card written ≡ written s card) × ((not wanted || empty (buffered s.buffer)) ≡ true)
Aimed wanted s card (Ok (Some b)) =
    (flushing_if wanted s card written ≡ written (flushed_to s b) (bytes (flushed_card s (words card) b))) × Chosen s (words card) b

-- a target tells what a flush that stands alone comes to, refusals 1 and 2 with it; a block is told only where the state and the card's length are
-- as they should be
abbrev pub Judged : State → List ℕ → Result (Option ℕ) Refusal → Type 0
Judged s card (Err why) = flush_of (store_of s card) ≡ refuse (refusal_number why)
Judged s card (Ok None) = flush_of (store_of s card) ≡ written s card
Judged s card (Ok (Some b)) =
    (flush_of (store_of s card) ≡ written (flushed_to s b) (bytes (flushed_card s (words card) b)))
    × (state_rule s ≡ true)
    × (length card ≡ s.lengths.card)
    × Chosen s (words card) b
