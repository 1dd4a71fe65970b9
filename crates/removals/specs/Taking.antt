-- A window's counts taken back from the buffer.
use Rattle.std.specs.Prelude.{Bool, true, ◌&&◌, ◌≡◌, ℕ, ◌+◌, ◌≤◌, nat_abs, neg_ℤ, ◌+ℤ◌, leb, length, drop, Option, Some, None, ⊤}
use mathlib.Core.List.{List, [], map, foldr}
use Rattle.lists.specs.Lists.{every}
use Rattle.postings.specs.declared.Posting.{Posting}
use Rattle.postings.specs.Order.{ordered}
use Rattle.postings.specs.Merge.{counting, put, is_counted, nonzero}
use Rattle.postings.specs.Sums.{sum}
use Rattle.words.specs.Words.{words, bytes}
use Rattle.state.specs.declared.Buffer.{Buffer}
use Rattle.state.specs.declared.State.{State}
use Rattle.state.specs.Rules.{state_rule}
use Rattle.partitions.specs.Reading.{stored}
use Rattle.state.specs.Views.{buffered, buffer_of}
use Rattle.buffer.specs.Canonical.{Canonical}
use Rattle.flushes.specs.Flush.{flushed_to, flushed_card}
use Rattle.flushes.specs.Targets.{Chosen}
use Rattle.sums.specs.declared.Counts.{Counts}
use Rattle.sums.specs.Views.{counts_in}
use Rattle.removals.specs.Removal.{counts_of, removal_formed}

-- what takes a posting back
abbrev pub opposite : Posting → Posting
opposite p = counting p (neg_ℤ p.count)

-- the postings l with the counts cs taken back, from place i on
unfoldable pub taken_back : List Posting → List Posting → ℕ → List Posting
taken_back l cs i = nonzero (foldr put l (map opposite (drop i cs)))

-- a count is within ±32,767, and so is its pair's sum over l when it is taken back
abbrev pub takeable : List Posting → Posting → Bool
takeable l p = leb (nat_abs p.count) 32767 && leb (nat_abs (neg_ℤ p.count +ℤ sum l p.id p.window)) 32767

-- counts that can be taken back from a buffer: both in order and without a count of 0, sums in range, and room for all
pub record Takeable (b : Buffer) (c : Counts) : Type 0 where
  pub canonical : length b.postings ≡ 128 → Canonical b
  pub counted : every is_counted (buffered b) ≡ true
  pub few : c.used ≤ 64
  pub in_order : ordered (counts_in c) ≡ true
  pub some : every is_counted (counts_in c) ≡ true
  pub within : every (takeable (buffered b)) (counts_in c) ≡ true
  pub room : length (counts_in c) + length (buffered b) ≤ 128

-- what follows refusals 1 to 3 can go on: state and card are judged, and these are the window's counts
pub record Removable (s : State) (card : List ℕ) (w : ℕ) (c : Counts) : Type 0 where
  pub rule : state_rule s ≡ true
  pub size : length card ≡ s.lengths.card
  pub formed : removal_formed (words card) s w ≡ true
  pub few : c.used ≤ 64
  pub counts : counts_in c ≡ counts_of w (stored (words card) s)

-- the state and the card that the counts are taken back from: those after the flush to a block, where there is one
abbrev pub emptied : State → Option ℕ → State
emptied s None = s
emptied s (Some b) = flushed_to s b

abbrev pub buffer_after : Buffer → Option ℕ → Buffer
buffer_after b None = b
buffer_after b (Some k) = buffer_of []

abbrev pub emptied_card : State → List ℕ → Option ℕ → List ℕ
emptied_card s card None = card
emptied_card s card (Some b) = bytes (flushed_card s (words card) b)

-- what such a flush asks for
abbrev pub Emptiable : State → List ℕ → Option ℕ → Type 0
Emptiable s card None = ⊤
Emptiable s card (Some b) = (state_rule s ≡ true) × (length card ≡ s.lengths.card) × Chosen s (words card) b
