-- The walk that judges the inputs: how what is told goes on from key to key.
use Rattle.lists.proofs.Prelude.{true, false, List, map, ◌≡◌, sym, ◌∙◌, ℕ, suc, ◌<◌, ◌≤◌, arith, by-test, and_right}
use Rattle.std.specs.Prelude.{Some, None}
use Rattle.keyed.specs.Keys.{Item, all_fall, topmost_from, rest, head_vals, heads_fine}
use Rattle.keyed.proofs.Walk.{under_top, top-falls, spent-falls, under, step_falls, pairs-none, pairs-step}
use Rattle.partitions.specs.Formed.{in_range}
use Rattle.scans.specs.Keys.{posting_of}
use Rattle.inputs.specs.Judging.{Tally, tally_of, tallied, resumed}

module _ (m : ℕ) (ls : List (List Item)) (t : Tally) where
  -- nothing is left
  pub ended : topmost_from 0 ls ≡ 0 → resumed m ls t ≡ Some t
  unfolding resumed tallied
  ended e = let u = rw e at (under_top 0 ls) in rw (spent-falls m ls u, pairs-none m ls u)

  -- a key at or above one that was passed
  pub too-high : m < topmost_from 0 ls → resumed m ls t ≡ None
  unfolding resumed
  too-high h = by-test (all_fall m ls) (λ e. let f = top-falls m 0 ls (omega arith) e in absurd (omega arith)) (λ e. rw e)

  module _ (k : ℕ) (top : topmost_from 0 ls ≡ suc k) (low : suc k ≤ m) where
    -- a malformed posting
    pub malformed : heads_fine k ls ≡ false → resumed m ls t ≡ None
    unfolding resumed
    malformed e = rw (step_falls m k ls (under k ls top) low, e)

    -- a sum that does not fit
    pub out_of_range : in_range (head_vals k ls) ≡ false → resumed m ls t ≡ None
    unfolding resumed
    out_of_range e = by-test (all_fall m ls) (λ y. rw (y, pairs-step m k ls top low y, e)) (λ n. rw n)

    -- else a pair more
    pub went_on : heads_fine k ls ≡ true → in_range (head_vals k ls) ≡ true
        → resumed m ls t ≡ resumed k (map (rest k) ls) (tally_of t (posting_of (record { key = k; sum = head_vals k ls })))
    unfolding resumed tallied
    went_on e w =
        let s = step_falls m k ls (under k ls top) low in
        by-test (all_fall m ls)
        (λ y. let b : all_fall k (map (rest k) ls) ≡ true = and_right (heads_fine k ls) _ (sym s ∙ y) in rw (y, pairs-step m k ls top low y, w, b))
        (λ n. let b : all_fall k (map (rest k) ls) ≡ false = rw e at (sym s ∙ n) in rw (n, b))
