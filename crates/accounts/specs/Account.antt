-- The account: what is stored where, as lists of postings. It decides postings taken and refusals 10 to 13, and nothing else.
use Rattle.std.specs.Prelude.{Bool, ◌&&◌, not, cond, ℕ, suc, ◌+◌, ◌*◌, eqb, ltb, leb, length, get_or}
use mathlib.Core.List.{List, [], ◌∷◌, ◌++◌, foldr, map}
use Rattle.lists.specs.Lists.{keep, any, empty, total_by, joined, elem}
use Rattle.postings.specs.declared.Posting.{Posting}
use Rattle.postings.specs.declared.Stretch.{Stretch}
use Rattle.postings.specs.Merge.{put, nonzero, pairs}
use Rattle.postings.specs.Spans.{lowest, highest}
use Rattle.answers.specs.Answers.{Outcome, choose}
use Rattle.answers.specs.Order as order
use Rattle.answers.specs.Order.{admit}
use Rattle.state.specs.Levels.{next_level, of_level, due_levels, oldest, replaced}
use Rattle.card.specs.Chains.{blocks_for}
use Rattle.partitions.specs.Layout.{length_of}

-- a finished partition: its level and its postings
pub record Portion : Type 0 where
  pub level : ℕ
  pub postings : List Posting

-- the buffer, the finished partitions, oldest first, and the steps of the merge in progress, 0 for none
pub record Account : Type 0 where
  pub buffer : List Posting
  pub partitions : List Portion
  pub steps : ℕ

unfoldable pub empty_account : Account
empty_account = record { buffer = []; partitions = []; steps = 0 }

-- the postings of partitions, in order
abbrev pub postings_in : List Portion → List Posting
postings_in ps = joined (map (λ (p : Portion). p.postings) ps)

-- all that is stored
abbrev pub stored_in : Account → List Posting
stored_in a = postings_in a.partitions ++ a.buffer

-- how many postings are stored under these identifiers
unfoldable pub taken_from : List ℕ → Account → ℕ
taken_from is a = length (keep (λ p. elem p.id is) (stored_in a))

-- is a partition not wholly outside a stretch
abbrev pub reaches : Stretch → Portion → Bool
reaches t p = leb t.first (highest p.postings) && leb (lowest p.postings) t.last

-- what a query of a stretch reads: the partitions not wholly outside, and the buffer
unfoldable pub read_by : Stretch → Account → Account
read_by t a = record { buffer = a.buffer; partitions = keep (reaches t) a.partitions; steps = 0 }

-- the blocks of a partition of these postings; none for no postings
unfoldable pub blocks_of : List Posting → ℕ
blocks_of l = cond (empty l) 0 (blocks_for (length_of l))

-- the blocks of finished partitions
unfoldable pub blocks_in : Account → ℕ
blocks_in a = total_by (λ p. blocks_of p.postings) a.partitions

-- ---- merging

-- the due levels, highest first
abbrev pub due_of : Account → List ℕ
due_of a = due_levels (λ (p : Portion). p.level) a.partitions

-- the postings of the oldest 8 (or 3) partitions of the highest due level
unfoldable pub inputs_of : Account → List Posting
inputs_of a = postings_in (oldest (λ (p : Portion). p.level) (due_of a) a.partitions)

-- the result of the merge: its pairs' sums that are not 0
unfoldable pub merged : Account → List Posting
merged a = nonzero (pairs (inputs_of a))

-- the result as a partition, one level up; an empty one makes none
abbrev pub portion_of : Account → List Portion
portion_of a = cond (empty (merged a)) [] (record { level = next_level (get_or (due_of a) 0 0); postings = merged a } ∷ [])

-- the blocks of the output in progress
unfoldable pub blocks_ahead : Account → ℕ
blocks_ahead a = cond (eqb a.steps 0) 0 (blocks_of (merged a))

-- the merge is finished: the result stands in its inputs' place
unfoldable pub completed : Account → Account
completed a = record { buffer = a.buffer; partitions = replaced (λ (p : Portion). p.level) (due_of a) a.partitions (portion_of a); steps = 0 }

-- the merge is one step further
unfoldable pub furthered : Account → Account
furthered a = record { buffer = a.buffer; partitions = a.partitions; steps = suc a.steps }

-- each step takes sixteen pairs; the last one finishes
unfoldable pub stepped_account : Account → Account
stepped_account a = cond (leb (length (pairs (inputs_of a))) (16 * suc a.steps)) (completed a) (furthered a)

-- ---- flushing

-- the buffer as one partition of level 0, last in the list
unfoldable pub flushed_account : Account → Account
flushed_account a = record { buffer = []; partitions = a.partitions ++ (record { level = 0; postings = a.buffer } ∷ []); steps = a.steps }

-- does a posting's pair come new to a buffer of 128
unfoldable pub overflows : Posting → Account → Bool
overflows p a = eqb (length a.buffer) 128 && not (any (λ q. eqb q.id p.id && eqb q.window p.window) a.buffer)

-- do so many postings exceed a buffer of 128
unfoldable pub exceeds : List Posting → Account → Bool
exceeds ps a = ltb 128 (length a.buffer + length ps)

-- postings added to the buffer; a sum of 0 is dropped
unfoldable pub added_to : List Posting → Account → Account
added_to ps a = record { buffer = nonzero (foldr put a.buffer ps); partitions = a.partitions; steps = a.steps }

-- what follows a step or a flush on a card of so many blocks
module _ {S : Type 0} (blocks : ℕ) where
  -- 12 where a merge that begins finds too few free blocks, 13 where none is in progress and no level is due
  unfoldable pub stepping : Account → (Account → Outcome S) → Outcome S
  stepping a k =
      admit order.merging
      ((eqb a.steps 0 && ltb blocks (blocks_in a + blocks_of (merged a)))
      ∷ (eqb a.steps 0 && empty (due_of a))
      ∷ [])
      (k (stepped_account a))

  -- an empty buffer writes nothing; else 10 with 16 partitions at level 0, 11 where twice (finished blocks + 1) exceeds the card's, 12 with no
  -- block that is neither a finished partition's nor the output's
  unfoldable pub flushing : Account → (Account → Outcome S) → Outcome S
  flushing a k =
      choose (empty a.buffer) (k a)
      (admit order.writing
      (leb 16 (of_level (λ (p : Portion). p.level) 0 a.partitions)
      ∷ ltb blocks (2 * suc (blocks_in a))
      ∷ ltb blocks (suc (blocks_in a + blocks_ahead a))
      ∷ [])
      (k (flushed_account a)))

  -- with a flush first where the test holds
  unfoldable pub flushing_if : Bool → Account → (Account → Outcome S) → Outcome S
  flushing_if t a k = choose t (flushing a k) (k a)
