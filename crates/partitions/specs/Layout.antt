-- "Partitions": the words that a partition is written as.
use Rattle.std.specs.Prelude.{not, List, [], ◌∷◌, ◌++◌, map, ℕ, ◌+◌, ◌*◌, eqb, ltb, length, get_or}
use Rattle.lists.specs.Lists.{keep, joined}
use Rattle.postings.specs.declared.Posting.{Posting}
use Rattle.postings.specs.Pack.{packed}
use Rattle.postings.specs.Sums.{under}
use Rattle.postings.specs.Spans.{lowest, highest}
use Rattle.state.specs.declared.Partition.{Partition}

-- each identifier of the postings once, in their order
abbrev pub identifiers_of : List Posting → List ℕ
identifiers_of [] = []
identifiers_of (p ∷ ps) = p.id ∷ keep (λ i. not (eqb i p.id)) (identifiers_of ps)

-- T, the number of identifiers
abbrev pub term_count : List Posting → ℕ
term_count ps = length (identifiers_of ps)

-- the total length in bytes of T identifiers and P postings
abbrev pub total_length : ℕ → ℕ → ℕ
total_length T P = 32 + 12 * T + 4 * P

-- the length of a partition of these postings; none is written of no postings
unfoldable pub length_of : List Posting → ℕ
length_of ps = total_length (term_count ps) (length ps)

-- the header: T, P, where entries and postings begin, the total length, the level, and the lowest and the highest window
abbrev pub header : ℕ → ℕ → ℕ → ℕ → ℕ → List ℕ
header level T P low high = T ∷ P ∷ 32 ∷ (32 + 12 * T) ∷ total_length T P ∷ level ∷ low ∷ high ∷ []

-- the entry of identifier i: its number (with the two zero bytes one word), how many postings it has, and the index of the first, which is how
-- many postings lower identifiers have
abbrev pub entry_of : List Posting → ℕ → List ℕ
entry_of ps i = i ∷ length (under i ps) ∷ length (keep (λ p. ltb p.id i) ps) ∷ []

-- a posting's word
abbrev pub word_of : Posting → ℕ
word_of p = packed p.count p.window

-- the partition: header, entries by identifier, postings
unfoldable pub encode : ℕ → List Posting → List ℕ
encode level ps =
    header level (term_count ps) (length ps) (lowest ps) (highest ps) ++ (joined (map (entry_of ps) (identifiers_of ps)) ++ map word_of ps)

-- the record of a partition of these postings that begins at block b
abbrev pub record_for : ℕ → ℕ → List Posting → Partition
record_for b level ps = record { first = b; level = level; length = length_of ps; lowest = lowest ps; highest = highest ps }

-- the record of one that is written along blocks
abbrev pub written_as : List ℕ → ℕ → List Posting → Partition
written_as bs level ps = record_for (get_or bs 0 0) level ps
