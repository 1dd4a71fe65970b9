-- What the words of a card are to the account: finished partitions with their postings, and the blocks that are not free.
use Rattle.std.specs.Prelude.{Bool, ◌&&◌, cond, List, [], ◌++◌, ℕ, ◌/◌, eqb, drop}
use Rattle.lists.specs.Lists.{every}
use Rattle.words.specs.Words.{all_ones}
use Rattle.postings.specs.declared.Posting.{Posting}
use Rattle.state.specs.declared.Partition.{Partition}
use Rattle.state.specs.declared.State.{State}
use Rattle.state.specs.Views.{finished}
use Rattle.card.specs.Chains.{content}
use Rattle.partitions.specs.Reading.{chain_of, postings_of}
use Rattle.partitions.specs.Layout.{length_of}
use Rattle.partitions.specs.Formed.{chains_of, span_rule}
use Rattle.plans.specs.Merging.{taking}
use Rattle.plans.specs.Step.{in_progress, output_chain}
use Rattle.accounts.specs.Account.{Portion}

-- a finished partition as it is read from the card's words
abbrev pub portion_on : List ℕ → Partition → Portion
portion_on W p = record { level = p.level; postings = postings_of W p }

-- the blocks of the output in progress
unfoldable pub output_of : List ℕ → State → List ℕ
output_of W s = cond (in_progress s) (output_chain W s (taking W s)) []

-- the blocks that are not free: of the output in progress and of finished partitions
abbrev pub occupied : List ℕ → State → List ℕ
occupied W s = output_of W s ++ chains_of W (finished s.partitions)

-- is a partition's content 255 past its length, which counts bytes, four to a word
unfoldable pub clean_past : List ℕ → Partition → Bool
clean_past W p = every (eqb all_ones) (drop (p.length / 4) (content W (chain_of W p)))

-- does a record tell the length and the windows of these postings
abbrev pub tells : Partition → List Posting → Bool
tells p l = eqb p.length (length_of l) && span_rule p l
