-- Postings as items by key: identifier ascending and then window falling is one falling order of keys.
use Rattle.std.specs.Prelude.{Bool, ◌&&◌, not, ℕ, ◌+◌, ◌-◌, ◌*◌, ◌/◌, ◌%◌, leb}
use Rattle.keyed.specs.Keys.{Item, Pair}
use Rattle.postings.specs.declared.Posting.{Posting}
use Rattle.postings.specs.Merge.{is_zero}

-- the key of identifier i and window w, below 67,108,864
abbrev pub key_of : ℕ → ℕ → ℕ
key_of i w = (1023 - i) * 65536 + w

-- the identifier and the window of a key
abbrev pub key_id : ℕ → ℕ
key_id k = 1023 - k / 65536

abbrev pub key_window : ℕ → ℕ
key_window k = k % 65536

-- what a posting says; it is well formed where neither its window nor its count is 0
abbrev pub item_of : Posting → Item
item_of p = record { key = key_of p.id p.window; val = p.count; fine = leb 1 p.window && not (is_zero p.count) }

-- has a posting a key of its own: the identifier is at most 1,023, and the window at most 65,535
abbrev pub is_keyed : Posting → Bool
is_keyed p = leb p.id 1023 && leb p.window 65535

-- a key with its sum, as a posting
abbrev pub posting_of : Pair → Posting
posting_of p = record { id = key_id p.key; window = key_window p.key; count = p.sum }
