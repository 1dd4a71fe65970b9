-- The entries of a partition word by word, three to an entry, and when a partition may be read.
use Rattle.std.specs.Prelude.{Bool, true, ◌&&◌, List, ◌≡◌, ℕ, ◌*◌, eqb, leb, take, drop}
use Rattle.state.specs.declared.Partition.{Partition}
use Rattle.card.specs.declared.Cursor.{Cursor}
use Rattle.card.specs.Chains.{blocks_for, content}
use Rattle.card.specs.Cursors.{Chained, ahead, Good, head_of, moved_of}
use Rattle.partitions.specs.declared.Entry.{Entry}
use Rattle.partitions.specs.Reading.{field, chain_of}
use Rattle.partitions.specs.Formed.{header_rule, entries_rule}

-- the words of a content's entries
abbrev pub term_words : List ℕ → List ℕ
term_words c = take (3 * field c 0) (drop 8 c)

-- one entry's rule: its number is at least `next` and at most 1,023, it has a posting, and its first index is the sum of the counts before
abbrev pub term_rule : ℕ → ℕ → ℕ → ℕ → ℕ → Bool
term_rule next sum i n f = leb next i && (leb i 1023 && (leb 1 n && eqb f sum))

-- the cursor past an entry
abbrev pub past_entry : List ℕ → Cursor → Cursor
past_entry W e = moved_of W (moved_of W (moved_of W e))

-- the entry at a cursor
abbrev pub entry_ahead : List ℕ → Cursor → Entry
entry_ahead W e =
    record { number = head_of W e; count = head_of W (moved_of W e); first = head_of W (moved_of W (moved_of W e)); rest = past_entry W e }

-- a cursor on all entries of a partition
pub record EntriesAt (W : List ℕ) (p : Partition) (e : Cursor) : Type 0 where
  pub good : Good W e
  pub terms : e.left ≡ 3 * field (content W (chain_of W p)) 0
  pub entries : ahead W e ≡ term_words (content W (chain_of W p))

-- a partition that may be read: its chain lies on the card, and its header and entries keep their rules
pub record Readable (W : List ℕ) (p : Partition) : Type 0 where
  pub chained : Chained W p.first (blocks_for p.length)
  pub header : header_rule p (content W (chain_of W p)) ≡ true
  pub entries : entries_rule (content W (chain_of W p)) ≡ true
