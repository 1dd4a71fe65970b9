-- Heads of readers over whole partitions in an array of numbers, ten to a head: one more than the key at the head (0 where the reader is spent), the head's
-- word, the cursor on the postings, the cursor on the entries, the identifier, and how many postings are under it.
use Rattle.std.specs.Prelude.{List, map, ◌≡◌, ℕ, ◌<◌, ◌≤◌, length, get_or}
use Rattle.std.proofs.Common.{arith}
use Rattle.keyed.specs.Keys.{Item, reach}
use Rattle.card.specs.Cursors.{head_of}
use Rattle.partitions.specs.declared.Reader.{Reader}
use Rattle.postings.specs.declared.Posting.{Posting}
use Rattle.partitions.specs.Readers.{GoodReader, postings_ahead}
use Rattle.scans.specs.Items.{items}
use Rattle.kway.specs.Parts.{parts}
use Rattle.kway.specs.Sources.{SourceLaws}

abbrev pub reader_at : List ℕ → Reader
reader_at h = record {
  postings = record { block = get_or h 2 0; word = get_or h 3 0; left = get_or h 4 0 };
  entries = record { block = get_or h 5 0; word = get_or h 6 0; left = get_or h 7 0 };
  id = get_or h 8 0;
  here = get_or h 9 0;
}

-- the postings that a head has still to come, itself the first
abbrev pub ahead : List ℕ → List ℕ → List Posting
ahead W h = postings_ahead W (reader_at h)

-- what they say
unfoldable pub view : List ℕ → List ℕ → List Item
view W h = items W (reader_at h)

-- five of the numbers have 16 bits
pub record Small (h : List ℕ) : Type 0 where
  pub block : get_or h 2 0 ≤ 65535
  pub word : get_or h 3 0 ≤ 65535
  pub block2 : get_or h 5 0 ≤ 65535
  pub word2 : get_or h 6 0 ≤ 65535
  pub id : get_or h 8 0 ≤ 65535

pub record Kept (W h : List ℕ) : Type 0 where
  pub ten : length h ≡ 10
  pub small : Small h
  pub good : GoodReader W (reader_at h)
  pub word : 0 < get_or h 4 0 → get_or h 1 0 ≡ head_of W (reader_at h).postings
  pub top : get_or h 0 0 ≡ reach (view W h)

-- what the first n have still to come
abbrev pub views : List ℕ → ℕ → List ℕ → List (List Item)
views W n H = map (view W) (parts 10 n H)

-- such heads keep the laws of a source
pub sourced : {S : Type 0} (W : S → List ℕ) → SourceLaws 10 (λ s. Kept (W s)) (λ s. view (W s))
sourced W = record { some = omega arith; few = omega arith; long = λ s h k. k.ten; top = λ s h k. k.top }
