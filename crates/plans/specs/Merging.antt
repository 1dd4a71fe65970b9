-- A merge: its inputs, the pairs that it takes in order, and what its output holds after each step.
use Rattle.std.specs.Prelude.{Bool, cond, List, [], ◌∷◌, ◌++◌, map, ℕ, ◌+◌, ◌*◌, leb, length, get_or, take, replicate}
use Rattle.lists.specs.Lists.{empty}
use Rattle.words.specs.Words.{all_ones}
use Rattle.postings.specs.declared.Posting.{Posting}
use Rattle.postings.specs.Merge.{nonzero, pairs}
use Rattle.state.specs.declared.Partition.{Partition}
use Rattle.state.specs.declared.State.{State}
use Rattle.state.specs.Views.{finished}
use Rattle.state.specs.Levels.{next_level, due_levels, oldest}
use Rattle.card.specs.Chains.{blocks_for}
use Rattle.partitions.specs.Layout.{term_count, length_of, word_of, encode, record_for}
use Rattle.partitions.specs.Reading.{in_partitions}

-- the due levels of a state, highest first
abbrev pub due_in : State → List ℕ
due_in s = due_levels (λ (p : Partition). p.level) (finished s.partitions)

-- the inputs: the oldest 8 (or 3) partitions of the highest due level
abbrev pub inputs : State → List Partition
inputs s = oldest (λ (p : Partition). p.level) (due_in s) (finished s.partitions)

-- the pairs of the inputs in order, with their sums, 0 among them
unfoldable pub taking : List ℕ → State → List Posting
taking W s = pairs (in_partitions W (inputs s))

-- the result: the sums that are not 0
abbrev pub result : List Posting → List Posting
result ps = nonzero ps

-- how many bytes a result takes: none where it is empty
abbrev pub output_length : List Posting → ℕ
output_length r = cond (empty r) 0 (length_of r)

-- how many blocks
abbrev pub output_blocks : List Posting → ℕ
output_blocks r = cond (empty r) 0 (blocks_for (length_of r))

-- the content after step j: header and entry space 255, and then the sums that are not 0 of the first 16 × j pairs
unfoldable pub progress : List Posting → ℕ → List ℕ
progress ps j = replicate (8 + 3 * term_count (result ps)) all_ones ++ map word_of (nonzero (take (16 * j) ps))

-- is step j the last: no pair is left
abbrev pub is_last : List Posting → ℕ → Bool
is_last ps j = leb (length ps) (16 * j)

-- the level of the result
abbrev pub output_level : State → ℕ
output_level s = next_level (get_or (due_in s) 0 0)

-- the result as a partition that begins at block b; an empty one makes none
abbrev pub output_record : State → List Posting → ℕ → List Partition
output_record s r b = cond (empty r) [] (record_for b (output_level s) r ∷ [])

-- the content after step j, the last one included: then it is the whole partition
unfoldable pub output_content : State → List Posting → ℕ → List ℕ
output_content s ps j = cond (is_last ps j) (encode (output_level s) (result ps)) (progress ps j)
