-- What the walk tells, key by key: the lists by falling key, the window's sums tested and its totals gathered at every key.
use Rattle.lists.proofs.Prelude.{Bool, true, cond, ◌&&◌, ◌||◌, not, List, [], ◌∷◌, ◌++◌, map, ◌≡◌, ℕ, ◌≤◌, eqb, leb, ℤ, length, drop, every}
use Rattle.keyed.specs.Keys.{Item, sums, over_keys}
use Rattle.keyed.specs.Groups.{Group, all_fall_all}
use Rattle.postings.specs.declared.Posting.{Posting}
use Rattle.postings.specs.Merge.{is_zero}
use Rattle.state.specs.declared.Buffer.{Buffer}
use Rattle.state.specs.Views.{buffered}
use Rattle.partitions.specs.Formed.{in_range}
use Rattle.kway.specs.Ranges.{total_z, in_ranges}
use Rattle.scans.specs.Keys.{key_window, item_of, is_keyed, posting_of}
use Rattle.scans.specs.Heads.{views}

-- malformed, or a window's counts
pub data Tally : Type 0 where
  faulty : Tally
  tallied : List Posting → Tally

-- the total under a key as a posting
abbrev pub total_at : ℕ → ℤ → Posting
total_at k z = posting_of (record { key = k; sum = z })

-- at a key of window w, the sums are in range
abbrev pub checked : ℕ → ℕ → List ℤ → Bool → Bool
checked w k v b = (not (eqb (key_window k) w) || in_ranges v) && b

-- at a key of window w, a total that is not 0 is a count
abbrev pub gathered : ℕ → ℕ → List ℤ → List Posting → List Posting
gathered w k v l = cond (eqb (key_window k) w && not (is_zero (total_z v))) (total_at k (total_z v) ∷ l) l

-- are the sums of window w in range
unfoldable pub window_checked : ℕ → List Group → Bool
window_checked w gs = over_keys (checked w) true 67108864 (λ k. map (sums k) gs)

-- the totals of window w that are not 0, by falling key
unfoldable pub window_gathered : ℕ → List Group → List Posting
window_gathered w gs = over_keys (gathered w) [] 67108864 (λ k. map (sums k) gs)

-- the counts, where the test holds and they are at most 64
unfoldable pub tally_if : Bool → List Posting → Tally
tally_if t l = cond (t && leb (length l) 64) (tallied l) faulty

-- what the walk tells
unfoldable pub tally_of : ℕ → List Group → Tally
tally_of w gs = cond (all_fall_all 67108864 gs) (tally_if (window_checked w gs) (window_gathered w gs)) faulty

-- what is told after one key more, where cs are the counts so far
unfoldable pub kept_of : ℕ → ℕ → ℤ → ℤ → List Posting → Tally
kept_of w k sum total cs =
    tally_if (not (eqb (key_window k) w) || (in_range sum && in_range total))
    (cs ++ cond (eqb (key_window k) w && not (is_zero total)) (total_at k total ∷ []) [])

-- has a posting neither window 0 nor count 0
abbrev pub is_fine : Posting → Bool
is_fine p = leb 1 p.window && not (is_zero p.count)

-- what the buffer has to come from place i on
unfoldable pub buffer_items : Buffer → ℕ → List Item
buffer_items b i = map item_of (drop i (buffered b))

-- a buffer whose postings have keys and are well formed
pub record Walkable (b : Buffer) : Type 0 where
  pub few : b.used ≤ 128
  pub keyed : every is_keyed (buffered b) ≡ true
  pub fine : every is_fine (buffered b) ≡ true

-- one group of lists from the card, and one of the buffer alone
abbrev pub groups : List ℕ → ℕ → List ℕ → Buffer → ℕ → List Group
groups W n H b i = views W n H ∷ (buffer_items b i ∷ []) ∷ []
