-- What is told of a merge's inputs that are well formed: what their pairs come to.
use Rattle.std.specs.Prelude.{Bool, cond, Option, Some, None, MatchOption, ◌&&◌, List, [], ◌∷◌, map, ◌≡◌, ℕ, ◌+◌, ◌≤◌, min, max, eqb, length, get_or, set, replicate}
use Rattle.lists.specs.Lists.{every, up_to}
use Rattle.keyed.specs.Keys.{Item, all_fall, key_pairs as keyed_pairs}
use Rattle.postings.specs.declared.Posting.{Posting}
use Rattle.postings.specs.Merge.{is_zero, nonzero, pairs}
use Rattle.postings.specs.Sums.{under}
use Rattle.postings.specs.Spans.{lowest, highest}
use Rattle.state.specs.declared.Partition.{Partition}
use Rattle.partitions.specs.Layout.{term_count}
use Rattle.partitions.specs.Reading.{in_partitions}
use Rattle.partitions.specs.Formed.{lists_rule, in_range}
use Rattle.scans.specs.Keys.{posting_of}
use Rattle.inputs.specs.declared.Totals.{Totals}

-- does every pair's sum fit a posting
abbrev pub all_in_range : List Posting → Bool
all_in_range ps = every (λ p. in_range p.count) ps

-- the inputs' lists keep their rule, and the sums of their pairs fit
unfoldable pub inputs_formed : List ℕ → List Partition → Bool
inputs_formed W ps = every (lists_rule W) ps && all_in_range (pairs (in_partitions W ps))

-- the totals of pairs: how many, how many with a sum other than 0, and of these how many identifiers, and the lowest and the highest window
unfoldable pub totals_of : List Posting → Totals
totals_of ps = record {
  pairs = length ps;
  postings = length (nonzero ps);
  terms = term_count (nonzero ps);
  lowest = lowest (nonzero ps);
  highest = highest (nonzero ps);
}

-- and how many of them are under each identifier
unfoldable pub counts_by_id : List Posting → List ℕ
counts_by_id ps = map (λ i. length (under i (nonzero ps))) (up_to 1024)

-- totals of no pairs
abbrev pub zeros : Totals
zeros = record { pairs = 0; postings = 0; terms = 0; lowest = 65535; highest = 0 }

-- what is told of inputs; of malformed ones nothing is
unfoldable pub judged_of : List ℕ → List Partition → Option Totals
judged_of W ps = cond (inputs_formed W ps) (Some (totals_of (pairs (in_partitions W ps)))) None

-- totals that fit
pub record Small (t : Totals) : Type 0 where
  pub pairs : t.pairs ≤ 67108864
  pub postings : t.postings ≤ t.pairs
  pub terms : t.terms ≤ 1024

-- ---- pair by pair

-- totals, and how many postings are under each identifier
pub record Tally : Type 0 where
  pub totals : Totals
  pub counts : List ℕ

-- an identifier more, where its first posting comes
abbrev pub risen : ℕ → ℕ → ℕ
risen terms n = cond (eqb n 0) (terms + 1) terms

-- totals with a pair more, of whose identifier there are n postings
unfoldable pub totals_more : Totals → ℕ → Posting → Totals
totals_more t n p =
    cond (is_zero p.count)
    (record { pairs = t.pairs + 1; postings = t.postings; terms = t.terms; lowest = t.lowest; highest = t.highest })
    (record {
      pairs = t.pairs + 1;
      postings = t.postings + 1;
      terms = risen t.terms n;
      lowest = min t.lowest p.window;
      highest = max t.highest p.window;
    })

-- and the numbers by identifier
unfoldable pub counts_more : List ℕ → Posting → List ℕ
counts_more ns p = cond (is_zero p.count) ns (set ns p.id (get_or ns p.id 0 + 1))

-- both
abbrev pub tally_of : Tally → Posting → Tally
tally_of t p = record { totals = totals_more t.totals (get_or t.counts p.id 0) p; counts = counts_more t.counts p }

-- with all of a list, the first one first
unfoldable pub tallied : Tally → List Posting → Tally
tallied t [] = t
tallied t (p ∷ ps) = tallied (tally_of t p) ps

-- nothing is told yet
abbrev pub untold : Tally
untold = record { totals = zeros; counts = replicate 1024 0 }

-- the pairs of lists by falling key below m, as postings
abbrev pub postings_below : ℕ → List (List Item) → List Posting
postings_below m ls = map posting_of (keyed_pairs m ls)

-- what is told where the lists ls with keys below m are left and t is told of what was taken; of malformed lists nothing is
unfoldable pub resumed : ℕ → List (List Item) → Tally → Option Tally
resumed m ls t = cond (all_fall m ls && all_in_range (postings_below m ls)) (Some (tallied t (postings_below m ls))) None

-- totals r and numbers ns are what is told; of malformed lists there are neither
abbrev pub Told : Option Tally → Option Totals → List ℕ → Type 0
Told t r ns = MatchOption t (r ≡ None) (λ y. (r ≡ Some y.totals) × (ns ≡ y.counts))
