-- The pairs that heads have still to come, and what is taken of them.
use Rattle.std.specs.Prelude.{Bool, true, List, map, ◌≡◌, ℕ, ◌*◌, ◌≤◌, length, take, drop}
use Rattle.lists.specs.All.{AllOf}
use Rattle.lists.specs.Lists.{every, joined, same as same_of}
use Rattle.keyed.specs.Keys.{topmost_from}
use Rattle.postings.specs.declared.Posting.{Posting}
use Rattle.postings.specs.Merge.{nonzero, pairs}
use Rattle.partitions.specs.Layout.{word_of}
use Rattle.partitions.specs.Formed.{list_rule}
use Rattle.kway.specs.Parts.{parts}
use Rattle.scans.specs.Heads.{ahead, Kept, views}
use Rattle.inputs.specs.declared.Batch.{Batch}
use Rattle.inputs.specs.Judging.{all_in_range}

-- n heads, each kept; t is one more than the greatest key at any
pub record Ready (W : List ℕ) (n : ℕ) (H : List ℕ) (t : ℕ) : Type 0 where
  pub few : n ≤ 51
  pub fits : 10 * n ≤ length H
  pub kept : AllOf (Kept W) (parts 10 n H)
  pub top : t ≡ topmost_from 0 (views W n H)

-- the postings that they have still to come
abbrev pub posting_lists : List ℕ → ℕ → List ℕ → List (List Posting)
posting_lists W n H = map (ahead W) (parts 10 n H)

-- the pairs of all these, in order, with their sums, 0 among them
unfoldable pub pairs_ahead : List ℕ → ℕ → List ℕ → List Posting
pairs_ahead W n H = pairs (joined (posting_lists W n H))

-- heads of inputs that are well formed
pub record Formed (W : List ℕ) (n : ℕ) (H : List ℕ) (t : ℕ) : Type 0 where
  pub ready : Ready W n H t
  pub lists : every list_rule (posting_lists W n H) ≡ true
  pub sums : all_in_range (pairs_ahead W n H) ≡ true

-- the sums that are not 0 of the first n pairs, as the output has them
abbrev pub out_words : ℕ → List Posting → List ℕ
out_words n ps = map word_of (nonzero (take n ps))

-- the words to come at the output, against those that it should have: whether they are the same, and what comes after them
pub record Matched (out words : List ℕ) (r : Bool) (left : List ℕ) : Type 0 where
  pub same : r ≡ same_of words (take (length words) out)
  pub rest : left ≡ drop (length words) out

-- the postings of a batch
abbrev pub batched : Batch → List Posting
batched b = take b.used b.pairs
