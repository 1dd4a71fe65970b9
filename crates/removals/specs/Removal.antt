-- Removal of a window: what it answers and leaves, for every input.
use Rattle.std.specs.Prelude.{Bool, ◌||◌, ◌&&◌, not, ℕ, ◌+◌, ◌-◌, eqb, ltb, length}
use mathlib.Core.List.{List, [], ◌∷◌, foldr}
use Rattle.words.specs.Words.{words}
use Rattle.postings.specs.declared.Posting.{Posting}
use Rattle.postings.specs.Merge.{put, nonzero, negated}
use Rattle.answers.specs.Answers.{Outcome, leave, done}
use Rattle.answers.specs.Order as order
use Rattle.answers.specs.Order.{until, past, admit}
use Rattle.state.specs.declared.State.{State}
use Rattle.state.specs.Views.{blocks, buffered, finished, buffer_of, with_windows, with_buffer}
use Rattle.state.specs.Rules.{state_rule}
use Rattle.state.specs.Probe.{Store, has_length}
use Rattle.partitions.specs.Reading.{stored}
use Rattle.partitions.specs.Formed.{partitions_formed}
use Rattle.flushes.specs.Flush.{flushing_if}
use Rattle.windows.specs.Calls.{is_open}
-- the postings of a window, its counts read from the buffers and whether it lives, and refusal 3 of lists and sums
pub use Rattle.sums.specs.Tally.{of_window, is_live}
unfoldable pub use Rattle.sums.specs.Tally.{counts_of, lists_formed}

-- refusal 3: all finished partitions and all their lists, the window's sums over the partitions and with the buffer, and more than 64 of them
unfoldable pub removal_formed : List ℕ → State → ℕ → Bool
removal_formed W s w = partitions_formed W (blocks s) (finished s.partitions) && lists_formed W s w

-- a removal flushes first exactly when buffered postings and the window's identifiers together exceed 128
unfoldable pub removal_flushes : State → List Posting → Bool
removal_flushes s counts = ltb 128 (length (buffered s.buffer) + length counts)

-- each of the window's counts is buffered negated, a sum of 0 is dropped, and N is one less
unfoldable pub removed : State → List Posting → State
removed s counts =
    with_buffer
    (with_windows s (record { last = s.windows.last; live = s.windows.live - 1; current = s.windows.current; events = s.windows.events }))
    (buffer_of (nonzero (foldr put (buffered s.buffer) (negated counts))))

-- what follows refusals 1 to 3, where these are the window's counts: 5 for the open window, 7 for one that is not live or was not given, or where N is 0
unfoldable pub removing : State → List ℕ → ℕ → List Posting → Outcome Store
removing s card w counts =
    admit (past 3 order.removal)
    ((is_open s && eqb w s.windows.current)
    ∷ (not (is_live counts) || (ltb s.windows.last w || eqb s.windows.live 0))
    ∷ [])
    (flushing_if (removal_flushes s counts) s card (λ t after. leave done (record { state = removed t counts; card = after })))

unfoldable pub remove_of : Store → ℕ → Outcome Store
remove_of p w =
    admit (until 3 order.removal)
    (not (state_rule p.state)
    ∷ not (has_length p.card p.state.lengths.card)
    ∷ not (removal_formed (words p.card) p.state w)
    ∷ [])
    (removing p.state p.card w (counts_of w (stored (words p.card) p.state)))
