-- The walk over opened heads tells what is told of the inputs.
use Rattle.lists.proofs.Prelude.{true, false, cond, List, map, ◌≡◌, sym, ap, ◌∙◌, ℕ, AllOf, every, joined, by-test, and_left, and_right, every_map}
use Rattle.std.specs.Prelude.{Option, Some, None, IfSome}
use Rattle.keyed.specs.Keys.{all_fall}
use Rattle.words.specs.Words.{Below}
use Rattle.postings.specs.declared.Posting.{Posting}
use Rattle.postings.specs.Merge.{pairs}
use Rattle.state.specs.declared.Partition.{Partition}
use Rattle.partitions.specs.Reading.{postings_of, in_partitions}
use Rattle.partitions.specs.Formed.{list_rule, lists_rule}
use Rattle.spans.proofs.Lists.{lists_alone, spans_told, lists-parts, lists-spanned, lists-unspanned}
use Rattle.kway.specs.Parts.{parts}
use Rattle.scans.specs.Keys.{item_of, is_keyed}
use Rattle.scans.specs.Heads.{Kept, views}
use Rattle.scans.proofs.Keys.{lists-rule}
use Rattle.scans.proofs.Merged.{pairs-bound, pairs-keyed}
use Rattle.inputs.specs.declared.Totals.{Totals}
use Rattle.inputs.specs.Judging.{all_in_range, inputs_formed, totals_of, counts_by_id, judged_of, Small, untold, resumed, Told}
use Rattle.inputs.specs.Ahead.{posting_lists, pairs_ahead, Ready, Formed}
use Rattle.inputs.proofs.Views.{items-lists, lists-keyed}
use Rattle.inputs.proofs.Tallies.{told_of, tallied-all}

-- of well formed inputs the totals of their pairs are told
pub judged-some : (W : List ℕ) (ps : List Partition) (t : Totals) → Some t ≡ judged_of W ps → (inputs_formed W ps ≡ true) × (t ≡ totals_of (pairs (in_partitions W ps)))
unfolding judged_of
judged-some W ps t e = by-test (inputs_formed W ps) (λ y. let h = rw y at e in (y, cc)) (λ n. let h = rw n at e in cc)

-- and of malformed ones nothing is
pub judged-none : (W : List ℕ) (ps : List Partition) → None ≡ judged_of W ps → inputs_formed W ps ≡ false
unfolding judged_of
judged-none W ps e = by-test (inputs_formed W ps) (λ y. let h = rw y at e in cc) (λ n. n)

-- inputs whose records tell other windows are malformed
pub judged-unspanned : (W : List ℕ) (ps : List Partition) → spans_told W ps ≡ false → judged_of W ps ≡ None
unfolding judged_of inputs_formed
judged-unspanned W ps e = rw (lists-unspanned W ps e)

module _ (W : List ℕ) (small : Below 4294967296 W) (ps : List Partition) (n : ℕ) (H : List ℕ) (kept : AllOf (Kept W) (parts 10 n H)) (lists : posting_lists W n H ≡ map (postings_of W) ps) where
  abbrev ls : List (List Posting)
  ls = map (postings_of W) ps

  keyed : every (every is_keyed) ls ≡ true
  keyed = rw lists at (lists-keyed W small n H kept)

  items : views W n H ≡ map (map item_of) ls
  items = items-lists W n H ∙ ap (map (map item_of)) lists

  falls : all_fall 67108864 (map (map item_of) ls) ≡ lists_alone W ps
  falls = lists-rule ls keyed ∙ every_map list_rule (postings_of W) ps

  module _ (spanned : spans_told W ps ≡ true) where
    -- what the walk tells
    walked : resumed 67108864 (views W n H) untold ≡ cond (inputs_formed W ps) (Some (told_of (pairs (in_partitions W ps)))) None
    unfolding resumed inputs_formed in_partitions
    walked =
        rw (items, lists-spanned W ps spanned)
        (by-test (all_fall 67108864 (map (map item_of) ls))
        (λ y. rw (pairs-keyed ls keyed y, tallied-all (pairs (joined ls)) (pairs-bound ls keyed), falls))
        (λ n. rw (n, sym falls ∙ n)))

    -- is what is told of the inputs
    pub told-judged : (r : Option Totals) (ns : List ℕ) → Told (resumed 67108864 (views W n H) untold) r ns → IfSome r Small
        → (r ≡ judged_of W ps) × IfSome r (λ t. (ns ≡ counts_by_id (pairs (in_partitions W ps))) × Small t)
    unfolding judged_of
    told-judged r ns t fits =
        by-test (inputs_formed W ps)
        (λ y. let f : (r ≡ Some (totals_of (pairs (in_partitions W ps)))) × (ns ≡ counts_by_id (pairs (in_partitions W ps))) = rw (walked, y) at t in
        (rw y f.0, rw f.0 (f.1, rw f.0 at fits)))
        (λ n. let f : r ≡ None = rw (walked, n) at t in (rw n f, rw f tt))

  -- heads of well formed inputs
  pub opened-ahead : pairs_ahead W n H ≡ pairs (in_partitions W ps)
  unfolding pairs_ahead in_partitions
  opened-ahead = ap (λ (l : List (List Posting)). pairs (joined l)) lists

  pub opened-formed : (top : ℕ) → Ready W n H top → inputs_formed W ps ≡ true → Formed W n H top
  unfolding inputs_formed
  opened-formed top ready e = record {
    ready = ready;
    lists = ap (every list_rule) lists ∙ every_map list_rule (postings_of W) ps ∙ and_left (lists_alone W ps) _ (sym (lists-parts W ps) ∙ and_left (every (lists_rule W) ps) _ e);
    sums = ap all_in_range opened-ahead ∙ and_right (every (lists_rule W) ps) _ e;
  }
