-- Where a pair stands in a list of postings in order, and the list with one posting more, one less, or one changed.
use Rattle.std.specs.Prelude.{cond, List, ◌∷◌, ◌++◌, ℕ, suc, ℤ, pos, ◌+ℤ◌, length, get_or, take, drop, set, Result, Ok, Err}
use Rattle.lists.specs.Lists.{keep, any}
use Rattle.postings.specs.declared.Posting.{Posting}
use Rattle.postings.specs.Order.{precedes, same_pair}
use Rattle.postings.specs.Merge.{counting, is_zero}
use Rattle.state.specs.Views.{no_posting}

-- one count of a pair
abbrev pub pair : ℕ → ℕ → Posting
pair i w = record { id = i; window = w; count = pos 1 }

-- how many postings stand before p
unfoldable pub places_before : Posting → List Posting → ℕ
places_before p l = length (keep (λ q. precedes q p) l)

-- the place of p's pair, or the place before which it would be put in
unfoldable pub place_of : Posting → List Posting → Result ℕ ℕ
place_of p l = cond (any (same_pair p) l) (Ok (places_before p l)) (Err (places_before p l))

module _ {A : Type 0} where
  -- the list with x put in before place k
  abbrev pub inserted_at : ℕ → A → List A → List A
  inserted_at k x l = take k l ++ x ∷ drop k l

  -- the list without place k
  abbrev pub dropped_at : ℕ → List A → List A
  dropped_at k l = take k l ++ drop (suc k) l

-- the posting at place k
abbrev pub posting_at : ℕ → List Posting → Posting
posting_at k l = get_or l k no_posting

-- the count at place k moved by z, and the posting dropped where that makes it 0
unfoldable pub moved_at : ℕ → ℤ → List Posting → List Posting
moved_at k z l =
    cond (is_zero (z +ℤ (posting_at k l).count)) (dropped_at k l) (set l k (counting (posting_at k l) (z +ℤ (posting_at k l).count)))
