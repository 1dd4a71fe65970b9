-- What the removals of a list go on with, and how they are judged before a byte is written.
use Rattle.std.specs.Prelude.{Bool, true, cond, not, ◌||◌, ◌&&◌, List, [], ◌∷◌, ◌++◌, ◌≡◌, ℕ, suc, ◌+◌, ◌*◌, ◌≤◌, ◌<◌, eqb, ltb, leb, length, get_or}
use Rattle.lists.specs.Lists.{different}
use Rattle.words.specs.Words.{words, bytes}
use Rattle.postings.specs.declared.Posting.{Posting}
use Rattle.answers.specs.Answers.{Outcome, choose, leave, done}
use Rattle.answers.specs.Order as order
use Rattle.answers.specs.Order.{past, admit}
use Rattle.state.specs.declared.Windows.{Windows}
use Rattle.state.specs.declared.Buffer.{Buffer}
use Rattle.state.specs.declared.Partition.{Partition}
use Rattle.state.specs.declared.Partitions.{Partitions}
use Rattle.state.specs.declared.State.{State}
use Rattle.state.specs.Views.{blocks, buffered, finished, partitions_of}
use Rattle.state.specs.Levels.{of_level}
use Rattle.state.specs.Rules.{state_rule}
use Rattle.card.specs.Blocks.{free_blocks}
use Rattle.blocks.specs.Writes.{store}
use Rattle.partitions.specs.Layout.{encode, record_for}
use Rattle.flushes.specs.Flush.{finished_blocks, next_free}
use Rattle.flushes.specs.Targets.{Chosen}
use Rattle.removals.specs.Removal.{is_live}
use Rattle.batches.specs.declared.Listing.{Listing}
use Rattle.batches.specs.declared.Room.{Room}
use Rattle.batches.specs.Batch.{batch_formed}

-- refusals 1 to 3 and 16 have no cause
pub record Admitted (s : State) (card ws : List ℕ) : Type 0 where
  pub rule : state_rule s ≡ true
  pub size : length card ≡ s.lengths.card
  pub formed : batch_formed (words card) s ws ≡ true
  pub few : length ws ≤ 32
  pub once : different ws ≡ true

-- what a flush is judged by besides its free block, as a state has it
abbrev pub room_of : State → Room
room_of s = record { low = of_level (λ (p : Partition). p.level) 0 (finished s.partitions); used = finished_blocks s; blocks = blocks s }

-- numbers that fit, of a card with these words, and a block of it
pub record Roomy (r : Room) (last : ℕ) (W : List ℕ) : Type 0 where
  pub low : r.low ≤ 65535
  pub used : r.used ≤ 219043332045
  pub long : length W ≡ 1024 * r.blocks
  pub most : r.blocks ≤ 4096
  pub taken : last < r.blocks

-- a flush after k others of the same list, none of which is written yet: each takes one place of level 0, one block of those for finished partitions and one free block
unfoldable pub flush_after : Room → ℕ → List ℕ → ℕ → Outcome (Unit {0})
flush_after r taken W k =
    admit order.writing
    (leb 16 (r.low + k) ∷ ltb r.blocks (2 * suc (r.used + k)) ∷ not (leb (suc k) (length (free_blocks W r.blocks taken))) ∷ [])
    (leave done tt)

-- a removal after others of the same list: v and b are what they leave of window numbers and buffer, and k how many flushes they make
unfoldable pub removal_after : Room → ℕ → List ℕ → Windows → Buffer → ℕ → ℕ → List Posting → Outcome (Unit {0})
removal_after r taken W v b k w counts =
    admit (past 3 order.removal)
    ((not (eqb v.current 0) && eqb w v.current) ∷ (not (is_live counts) || (ltb v.last w || eqb v.live 0)) ∷ [])
    (choose (ltb 128 (length (buffered b) + length counts)) (flush_after r taken W k) (leave done tt))

-- a buffer, the finished partitions and the block last taken, of n, are those of a state whose flush has passed its tests
pub record Writable (card : List ℕ) (n last : ℕ) (b : Buffer) (ps : Partitions) : Type 0 where
  pub state : State
  pub rule : state_rule state ≡ true
  pub size : length card ≡ state.lengths.card
  pub chosen : Chosen state (words card) (next_free state (words card))
  pub blocks : blocks state ≡ n
  pub taken : state.taken ≡ last
  pub buffer : state.buffer ≡ b
  pub partitions : state.partitions ≡ ps

-- the free block that comes next
abbrev pub first_free : List ℕ → ℕ → ℕ → ℕ
first_free card n last = get_or (free_blocks (words card) n last) 0 0

-- where a flush is needed, the buffer is written to that block and listed as the youngest partition
pub record Listed (card : List ℕ) (n last : ℕ) (b : Buffer) (ps : Partitions) (flush : Bool) (r : Listing) (left : List ℕ) : Type 0 where
  pub partitions : r.partitions ≡ cond flush (partitions_of (finished ps ++ (record_for (first_free card n last) 0 (buffered b) ∷ []))) ps
  pub taken : r.taken ≡ cond flush (first_free card n last) last
  pub written : left ≡ cond flush (bytes (store (words card) (first_free card n last ∷ []) (encode 0 (buffered b)))) card
