-- The output of a merge in progress: what its blocks hold after so many pairs.
use Rattle.std.specs.Prelude.{Bool, List, ◌++◌, ℕ, ◌*◌, replicate}
use Rattle.lists.specs.All.{AllOf}
use Rattle.lists.specs.Lists.{different, same}
use Rattle.words.specs.Words.{all_ones}
use Rattle.postings.specs.declared.Posting.{Posting}
use Rattle.state.specs.declared.Partition.{Partition}
use Rattle.state.specs.Views.{padded}
use Rattle.card.specs.Chains.{blocks_for, chain, content}
use Rattle.card.specs.Cursors.{Chained}
use Rattle.partitions.specs.Formed.{chains_of}
use Rattle.inputs.specs.Ahead.{out_words}

-- the blocks of each partition are blocks of the card
abbrev pub AllChained : List ℕ → List Partition → Type 0
AllChained W ps = AllOf (λ p. Chained W p.first (blocks_for p.length)) ps

-- the content of n blocks after m of the pairs ps: so many words of header and entries 255, the sums other than 0, and 255 to the end
abbrev pub drafted : ℕ → ℕ → ℕ → List Posting → List ℕ
drafted n front m ps = padded (1023 * n) all_ones (replicate front all_ones ++ out_words m ps)

-- the n blocks from b on hold that
abbrev pub holds_draft : List ℕ → ℕ → ℕ → ℕ → ℕ → List Posting → Bool
holds_draft W b n front m ps = same (content W (chain W b n)) (drafted n front m ps)

-- none of them stands twice or in a partition
abbrev pub stands_apart : List ℕ → ℕ → ℕ → List Partition → Bool
stands_apart W b n ps = different (chain W b n ++ chains_of W ps)
