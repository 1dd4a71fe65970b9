-- Readers over whole partitions as lists of items by key.
use Rattle.std.specs.Prelude.{cond, ◌&&◌, List, map, ℕ, ltb, eqb}
use Rattle.keyed.specs.Keys.{Item}
use Rattle.postings.specs.Pack.{word_window}
use Rattle.card.specs.Cursors.{head_of}
use Rattle.partitions.specs.declared.Reader.{Reader}
use Rattle.partitions.specs.Readers.{postings_ahead, moved_reader}
use Rattle.scans.specs.Keys.{key_of, item_of}

-- what a reader has still to come
unfoldable pub items : List ℕ → Reader → List Item
items W r = map item_of (postings_ahead W r)

-- the key at a reader's head
abbrev pub head_key : List ℕ → Reader → ℕ
head_key W r = key_of r.id (word_window (head_of W r.postings))

-- the reader past its head, if that has the key k
unfoldable pub rest_reader : List ℕ → ℕ → Reader → Reader
rest_reader W k r = cond (ltb 0 r.postings.left && eqb (head_key W r) k) (moved_reader W r) r
