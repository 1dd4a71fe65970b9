-- What is read of a partition: the fields of its header and entries, and the postings that they lead to.
use Rattle.std.specs.Prelude.{List, map, ◌++◌, ℕ, ◌+◌, ◌*◌, get_or, take, drop}
use Rattle.lists.specs.Lists.{joined, up_to}
use Rattle.postings.specs.declared.Posting.{Posting}
use Rattle.postings.specs.Pack.{posted}
use Rattle.state.specs.declared.Partition.{Partition}
use Rattle.state.specs.declared.State.{State}
use Rattle.state.specs.Views.{buffered, finished}
use Rattle.card.specs.Chains.{blocks_for, chain, content}

-- a word of the header
abbrev pub field : List ℕ → ℕ → ℕ
field c j = get_or c j 0

-- entry j: its number, how many postings, the index of the first
abbrev pub entry_number : List ℕ → ℕ → ℕ
entry_number c j = get_or c (8 + 3 * j) 0

abbrev pub entry_count : List ℕ → ℕ → ℕ
entry_count c j = get_or c (9 + 3 * j) 0

abbrev pub entry_start : List ℕ → ℕ → ℕ
entry_start c j = get_or c (10 + 3 * j) 0

-- the words past header and entries
abbrev pub posting_words : List ℕ → List ℕ
posting_words c = drop (8 + 3 * field c 0) c

-- the postings of entry j
abbrev pub list_of : List ℕ → ℕ → List Posting
list_of c j = map (posted (entry_number c j)) (take (entry_count c j) (drop (entry_start c j) (posting_words c)))

-- all postings of a partition's content, by entry
unfoldable pub decode : List ℕ → List Posting
decode c = joined (map (list_of c) (up_to (field c 0)))

-- the blocks of a finished partition: as many as its length takes
abbrev pub chain_of : List ℕ → Partition → List ℕ
chain_of W p = chain W p.first (blocks_for p.length)

-- the postings of a finished partition
unfoldable pub postings_of : List ℕ → Partition → List Posting
postings_of W p = decode (content W (chain_of W p))

-- the postings of all finished partitions, oldest first
unfoldable pub in_partitions : List ℕ → List Partition → List Posting
in_partitions W ps = joined (map (postings_of W) ps)

-- all that is stored: in the finished partitions, and in the buffer
unfoldable pub stored : List ℕ → State → List Posting
stored W s = in_partitions W (finished s.partitions) ++ buffered s.buffer
