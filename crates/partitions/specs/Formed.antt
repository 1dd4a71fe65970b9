-- Refusal 3: what is read of finished partitions is malformed.
use Rattle.std.specs.Prelude.{Bool, true, ◌&&◌, not, List, [], ◌∷◌, map, ◌≡◌, ℕ, ◌+◌, ◌*◌, ◌≤◌, eqb, ltb, leb, ℤ, nat_abs, length}
use Rattle.lists.specs.Lists.{every, total_by, joined, different, same, up_to}
use Rattle.postings.specs.declared.Posting.{Posting}
use Rattle.postings.specs.Order.{ordered}
use Rattle.postings.specs.Merge.{is_zero, pairs}
use Rattle.postings.specs.Sums.{under}
use Rattle.postings.specs.Spans.{lowest, highest}
use Rattle.state.specs.declared.Partition.{Partition}
use Rattle.state.specs.declared.State.{State}
use Rattle.state.specs.Views.{finished}
use Rattle.card.specs.Chains.{blocks_for, chain_rule, content}
use Rattle.partitions.specs.Layout.{total_length}
use Rattle.partitions.specs.Reading.{field, entry_number, entry_count, entry_start, chain_of, postings_of, in_partitions, stored}

-- a header names at least one identifier and one posting, the layout's offsets, and the record's length, level, lowest and highest window
abbrev pub header_rule : Partition → List ℕ → Bool
header_rule p c =
    leb 1 (field c 0)
    && (leb 1 (field c 1)
    && (eqb (field c 2) 32
    && (eqb (field c 3) (32 + 12 * field c 0)
    && (eqb (field c 4) (total_length (field c 0) (field c 1))
    && (eqb (field c 4) p.length && (eqb (field c 5) p.level && (eqb (field c 6) p.lowest && eqb (field c 7) p.highest)))))))

-- each number is below the next
abbrev pub ascending : List ℕ → Bool
ascending [] = true
ascending (n ∷ ns) = every (ltb n) ns && ascending ns

-- for each count the sum of the counts before it, from n on
abbrev pub running : ℕ → List ℕ → List ℕ
running n [] = []
running n (c ∷ cs) = n ∷ running (n + c) cs

-- entries: numbers ascending and at most 1,023, at least one posting each, the first index the sum of the counts before, and all counts together P
abbrev pub entries_rule : List ℕ → Bool
entries_rule c =
    ascending (map (entry_number c) (up_to (field c 0)))
    && (every (λ j. leb (entry_number c j) 1023) (up_to (field c 0))
    && (every (λ j. leb 1 (entry_count c j)) (up_to (field c 0))
    && (same (map (entry_start c) (up_to (field c 0))) (running 0 (map (entry_count c) (up_to (field c 0))))
    && eqb (total_by (entry_count c) (up_to (field c 0))) (field c 1))))

-- a finished partition's chain, header and entries, on a card of so many blocks
unfoldable pub partition_rule : List ℕ → ℕ → Partition → Bool
partition_rule W limit p =
    chain_rule W limit p.first (blocks_for p.length)
    && (header_rule p (content W (chain_of W p)) && entries_rule (content W (chain_of W p)))

-- the blocks of finished partitions
unfoldable pub chains_of : List ℕ → List Partition → List ℕ
chains_of W ps = joined (map (chain_of W) ps)

-- every finished partition keeps the rule, and no block stands in two places
unfoldable pub partitions_formed : List ℕ → ℕ → List Partition → Bool
partitions_formed W limit ps = every (partition_rule W limit) ps && different (chains_of W ps)

-- a list that is used: in order, no window 0, no count of size 0
unfoldable pub list_rule : List Posting → Bool
list_rule l = ordered l && every (λ p. leb 1 p.window && not (is_zero p.count)) l

-- the windows of a partition's postings reach from the lowest to the highest that its record, and so its header, tells
abbrev pub span_rule : Partition → List Posting → Bool
span_rule p l = eqb p.lowest (lowest l) && eqb p.highest (highest l)

-- all lists of a partition, where a call reads them all: each one may be used, and the windows are those told
unfoldable pub lists_rule : List ℕ → Partition → Bool
lists_rule W p = list_rule (postings_of W p) && span_rule p (postings_of W p)

-- does a sum fit a posting
abbrev pub in_range : ℤ → Bool
in_range z = leb (nat_abs z) 32767

-- every pair's sum fits; a pair that does not occur has the sum 0
unfoldable pub sums_in_range : List Posting → Bool
sums_in_range l = every (λ p. in_range p.count) (pairs l)

-- what is read of one identifier: its lists in the finished partitions, and the sums of its pairs, over the partitions and with the buffer
unfoldable pub identifier_formed : List ℕ → State → ℕ → Bool
identifier_formed W s i =
    every (λ p. list_rule (under i (postings_of W p))) (finished s.partitions)
    && (sums_in_range (under i (in_partitions W (finished s.partitions))) && sums_in_range (under i (stored W s)))

-- postings that can be written as a partition: at least one, a list that may be used, identifiers of the register, counts that fit
pub record Writable (ps : List Posting) : Type 0 where
  pub some : 1 ≤ length ps
  pub formed : list_rule ps ≡ true
  pub numbered : every (λ p. leb p.id 1023) ps ≡ true
  pub fitting : every (λ p. in_range p.count) ps ≡ true
