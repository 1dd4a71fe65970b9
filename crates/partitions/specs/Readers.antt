-- A reader over a whole partition, and the postings that it has still to come: identifier ascending, window falling.
use Rattle.std.specs.Prelude.{Bool, true, false, cond, ◌&&◌, List, [], ◌∷◌, ◌≡◌, ℕ, ◌-◌, ◌%◌, ◌≤◌, ltb, leb, get_or, drop}
use Rattle.postings.specs.declared.Posting.{Posting}
use Rattle.postings.specs.Pack.{posted}
use Rattle.card.specs.Cursors.{ahead, Good, head_of, moved_of}
use Rattle.partitions.specs.declared.Reader.{Reader}
use Rattle.partitions.specs.Terms.{past_entry}

-- of the words of entries, three to an entry: the first one's number, how many postings it has, and the entries after it
abbrev pub first_number : List ℕ → ℕ
first_number es = get_or es 0 0

abbrev pub first_count : List ℕ → ℕ
first_count es = get_or es 1 0

abbrev pub later_entries : List ℕ → List ℕ
later_entries es = drop 3 es

-- posting words as postings: the first `here` are of the identifier `id`, and then each entry to come tells an identifier and how many are its own
unfoldable pub posted_by : ℕ → ℕ → List ℕ → List ℕ → List Posting
posted_by id here [] es = []
posted_by id here (x ∷ xs) es =
    posted id x ∷ cond (ltb 1 here) (posted_by id (here - 1) xs es) (posted_by (first_number es) (first_count es) xs (later_entries es))

-- the postings that a reader has still to come
unfoldable pub postings_ahead : List ℕ → Reader → List Posting
postings_ahead W r = posted_by r.id r.here (ahead W r.postings) (ahead W r.entries)

-- entries of three words each, with numbers of at most 1,023
unfoldable pub numbered : List ℕ → Bool
numbered [] = true
numbered (i ∷ []) = false
numbered (i ∷ n ∷ []) = false
numbered (i ∷ n ∷ f ∷ es) = leb i 1023 && numbered es

-- both cursors stand on the card, and every identifier to come is one
pub record GoodReader (W : List ℕ) (r : Reader) : Type 0 where
  pub postings : Good W r.postings
  pub entries : Good W r.entries
  pub threes : r.entries.left % 3 ≡ 0
  pub numbers : numbered (ahead W r.entries) ≡ true
  pub small : r.id ≤ 1023

-- the first posting to come
abbrev pub first_ahead : List ℕ → Reader → Posting
first_ahead W r = posted r.id (head_of W r.postings)

-- a reader past its first posting: one more is of the same identifier
abbrev pub same_identifier : List ℕ → Reader → Reader
same_identifier W r = record { postings = moved_of W r.postings; entries = r.entries; id = r.id; here = r.here - 1 }

-- the next is the first of the next entry's
abbrev pub next_identifier : List ℕ → Reader → Reader
next_identifier W r = record { postings = moved_of W r.postings; entries = past_entry W r.entries; id = head_of W r.entries; here = head_of W (moved_of W r.entries) }

-- there is none, as no entry is left
abbrev pub no_identifier : List ℕ → Reader → Reader
no_identifier W r = record { postings = moved_of W r.postings; entries = r.entries; id = 0; here = 0 }

-- which of them it is
unfoldable pub moved_reader : List ℕ → Reader → Reader
moved_reader W r = cond (ltb 1 r.here) (same_identifier W r) (cond (ltb 0 r.entries.left) (next_identifier W r) (no_identifier W r))
