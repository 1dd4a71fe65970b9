-- A flush: the buffer is written as one partition of level 0.
use Rattle.std.specs.Prelude.{⊤}
use Rattle.std.specs.Prelude.{Bool, not, List, [], ◌∷◌, ◌++◌, ℕ, suc, ◌*◌, ltb, leb, get_or}
use Rattle.lists.specs.Lists.{empty, total_by}
use Rattle.words.specs.Words.{words, bytes}
use Rattle.answers.specs.Answers.{Outcome, choose, leave, done}
use Rattle.answers.specs.Order as order
use Rattle.answers.specs.Order.{admit}
use Rattle.state.specs.declared.Partition.{Partition}
use Rattle.state.specs.declared.State.{State}
use Rattle.state.specs.Views.{blocks, buffered, finished, buffer_of, partitions_of, with_buffer, with_partitions, with_taken}
use Rattle.state.specs.Levels.{of_level}
use Rattle.card.specs.Blocks.{free_blocks}
use Rattle.card.specs.Chains.{blocks_for}
use Rattle.blocks.specs.Writes.{store}
use Rattle.partitions.specs.Layout.{encode, record_for}
use Rattle.state.specs.Rules.{state_rule}
use Rattle.state.specs.Probe.{Store, has_length, store_of}
use Rattle.answers.specs.Numbers.{replied}
use Rattle.windows.specs.declared.After.{After}
use Rattle.windows.specs.Promises.{Gives}

-- the blocks of finished partitions, by their records' lengths
unfoldable pub finished_blocks : State → ℕ
finished_blocks s = total_by (λ p. blocks_for p.length) (finished s.partitions)

-- the state after a flush to block b: an empty buffer, the new partition last in the list, b the block last taken
unfoldable pub flushed_to : State → ℕ → State
flushed_to s b =
    with_taken
    (with_partitions (with_buffer s (buffer_of []))
    (partitions_of (finished s.partitions ++ (record_for b 0 (buffered s.buffer) ∷ []))))
    b

-- the free block that a flush takes
abbrev pub next_free : State → List ℕ → ℕ
next_free s W = get_or (free_blocks W (blocks s) s.taken) 0 0

-- the card after a flush to block b
unfoldable pub flushed_card : State → List ℕ → ℕ → List ℕ
flushed_card s W b = store W (b ∷ []) (encode 0 (buffered s.buffer))

-- what follows a flush: an empty buffer writes nothing; else 10 with 16 partitions at level 0, 11 where twice (finished blocks + 1) exceeds the
-- card's, 12 with no free block; else the partition goes to the next free block
module _ {S : Type 0} where
  unfoldable pub flushing : State → List ℕ → (State → List ℕ → Outcome S) → Outcome S
  flushing s card k =
      choose (empty (buffered s.buffer)) (k s card)
      (admit order.writing
      (leb 16 (of_level (λ (p : Partition). p.level) 0 (finished s.partitions))
      ∷ ltb (blocks s) (2 * suc (finished_blocks s))
      ∷ empty (free_blocks (words card) (blocks s) s.taken)
      ∷ [])
      (k (flushed_to s (next_free s (words card))) (bytes (flushed_card s (words card) (next_free s (words card))))))

  -- with a flush first where the test holds
  unfoldable pub flushing_if : Bool → State → List ℕ → (State → List ℕ → Outcome S) → Outcome S
  flushing_if t s card k = choose t (flushing s card k) (k s card)

-- the call: refusals 1 and 2, and then the flush
unfoldable pub flush_of : Store → Outcome Store
flush_of p =
    admit order.flush (not (state_rule p.state) ∷ not (has_length p.card p.state.lengths.card) ∷ [])
    (flushing p.state p.card (λ s card. leave done (record { state = s; card = card })))

-- what a flush promises
abbrev pub Flushes : (s : State) (card : List ℕ) (r : After ⊤) (card' : List ℕ) → Type 0
Flushes s card r card' = Gives (store_of s card) (flush_of (store_of s card)) (replied r.answer) (store_of r.state card')
