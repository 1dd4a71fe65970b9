-- The second pass of a query: what is found from a window down, step by step. `shows` tells which windows show.
use Rattle.lists.proofs.Prelude.{Bool, true, false, cond, ◌&&◌, ◌||◌, List, [], ◌∷◌, foldr, map, ◌≡◌, refl, sym, ap, ◌∙◌, ℕ, zero, suc, ◌+◌, ◌-◌, ◌*◌, ◌<◌, ◌≤◌, zero-le, arith, ℤ, ltb, length, get_or, take, ne_eqb, any, every, elem, different, AllOf, by-test, and_left, and_right, and_both}
use Rattle.lists.proofs.TopK.{top_after}
use Rattle.keyed.specs.Keys.{sums, over_keys, head_vals}
use Rattle.keyed.specs.Groups.{Group, top_all, all_fall_all, move_all, heads_fine_all}
use Rattle.keyed.proofs.Walk.{over_none}
use Rattle.keyed.proofs.Groups.{Zero, under_all, step-all, spent-zero, top-all-falls, step-falls-all}
use Rattle.postings.specs.Sums.{is_above}
use Rattle.answers.specs.declared.Hit.{Hit}
use Rattle.partitions.specs.Formed.{in_range}
use Rattle.kway.specs.Parts.{parts}
use Rattle.scores.specs.Terms.{KeptGroup, terms_of}
use Rattle.scores.specs.Scores.{groups_in, weights_in, moved, weigh_all, score_at}
use Rattle.scores.proofs.Joined.{moved-groups, moved-weights}
use Rattle.ranking.specs.declared.Top.{Top}
use Rattle.ranking.specs.Hits.{outranks, place}
use Rattle.ranking.specs.Top.{no_hit, top_of, listed_hits, Held}
use Rattle.queries.specs.Walks.{hit_at, found_at, found_by, found_in, Walkable}
use Rattle.ranking.proofs.Ranking.{walked-hits}
use Rattle.ranking.proofs.Sorting.{Sorted, sorted-place, sorted-take, left_out}
use Rattle.ranking.proofs.Tops.{listed-of, held_of, held-take}

-- ---- each window is found once

module _ (shows : ℕ → Bool) (ws : List ℕ) (S : ℕ → List ℤ) where
  abbrev windows : ℕ → List ℕ
  windows m = map (λ (h : Hit). h.window) (over_keys (found_at shows ws) [] m S)

  -- no window from m on is found below m
  found-high : (m k : ℕ) → m ≤ k → elem k (windows m) ≡ false
  unfolding over_keys
  found-high zero k h = refl
  found-high (suc m) k h =
      by-test (any is_above (S m) && shows m)
      (λ y. rw (y, ne_eqb m k (λ e. omega arith)) (found-high m k (omega arith)))
      (λ y. rw y (found-high m k (omega arith)))

  found-once : (m : ℕ) → different (windows m) ≡ true
  unfolding over_keys
  found-once zero = refl
  found-once (suc m) =
      by-test (any is_above (S m) && shows m)
      (λ y. rw (y, found-high m m (omega arith)) (found-once m))
      (λ y. rw y (found-once m))

-- placed as they come, they end as the best of all
pub walked-best : (shows : ℕ → Bool) (places : ℕ) (ws : List ℕ) (gs : List Group) → top_after place places [] (found_by shows ws gs) ≡ take places (foldr place [] (found_by shows ws gs))
unfolding found_by
walked-best shows places ws gs = walked-hits places (over_keys (found_at shows ws) [] 65536 (λ w. map (sums w) gs)) (found-once shows ws (λ w. map (sums w) gs) 65536)

-- ---- windows without a sum

none_above : (v : List ℤ) → AllOf Zero v → any is_above v ≡ false
unfolding AllOf
none_above [] z = refl
none_above (x ∷ v) z = rw (z.0, none_above v z.1)

all_small : (v : List ℤ) → AllOf Zero v → every in_range v ≡ true
unfolding AllOf
all_small [] z = refl
all_small (x ∷ v) z = rw (z.0, all_small v z.1)

-- the sums of one window are in range, and those of the windows below it
abbrev ranges_at : ℕ → List ℤ → Bool → Bool
ranges_at w v r = every in_range v && r

ranges-over : (S : ℕ → List ℤ) → ((w : ℕ) → every in_range (S w) ≡ true) → (m : ℕ) → over_keys ranges_at true m S ≡ true
unfolding over_keys
ranges-over S h zero = refl
ranges-over S h (suc m) = and_both (every in_range (S m)) _ (h m) (ranges-over S h m)

module _ (shows : ℕ → Bool) (places : ℕ) (ws : List ℕ) where
  still : (w : ℕ) (v : List ℤ) (r : List Hit) → AllOf Zero v → found_at shows ws w v r ≡ r
  still w v r z = rw (none_above v z)

  quiet : (w : ℕ) (v : List ℤ) (r : Bool) → AllOf Zero v → ranges_at w v r ≡ r
  quiet w v r z = rw (all_small v z)

  -- groups with windows below `bound` are left, l is the best so far, and `whole` the best of all
  pub record Left (bound : ℕ) (gs : List Group) (l whole : List Hit) : Type 0 where
    pub low : bound ≤ 65536
    pub falls : all_fall_all bound gs ≡ true
    pub ranges : over_keys ranges_at true bound (λ w. map (sums w) gs) ≡ true
    pub rest : whole ≡ top_after place places l (over_keys (found_at shows ws) [] bound (λ w. map (sums w) gs))

  -- at the start all is left
  pub started : (gs : List Group) → all_fall_all 65536 gs ≡ true → ((w : ℕ) → every in_range (map (sums w) gs) ≡ true)
      → Left 65536 gs [] (take places (foldr place [] (found_by shows ws gs)))
  unfolding found_by
  started gs f r = record { low = omega arith; falls = f; ranges = ranges-over (λ w. map (sums w) gs) r 65536; rest = sym (walked-best shows places ws gs) }

  module _ {bound : ℕ} (gs : List Group) {l whole : List Hit} (left : Left bound gs l whole) where
    -- where nothing is left, the best so far is the best of all
    pub ended : top_all 0 gs ≡ 0 → whole ≡ l
    ended e =
        let u = rw e at (under_all 0 gs) in
        left.rest ∙ ap (top_after place places l) (over_none (found_at shows ws) [] bound (λ w. map (sums w) gs) (λ j r. still j (map (sums j) gs) r (spent-zero j gs u)))

    module _ (k : ℕ) (top : top_all 0 gs ≡ suc k) where
      -- the sums of the highest window, and the best with its hit
      abbrev now : List ℤ
      now = map (head_vals k) gs

      abbrev better : List Hit
      better = cond (any is_above now && shows k) (take places (place (hit_at ws k now) l)) l

      pub within : suc k ≤ bound
      within = let h = top-all-falls bound 0 gs zero-le left.falls in omega arith

      ranged : (every in_range now && over_keys ranges_at true k (λ w. map (sums w) (move_all k gs))) ≡ true
      ranged = sym (step-all ranges_at true quiet bound k gs within top left.falls) ∙ left.ranges

      -- its sums are in range
      pub in-range : every in_range now ≡ true
      in-range = and_left _ _ ranged

      -- what is left past it
      pub stepped : Left k (move_all k gs) better whole
      stepped = record {
        low = omega (arith, within, left.low);
        falls = and_right (heads_fine_all k gs) _ (sym (step-falls-all bound k gs (rw top at (under_all 0 gs)) within) ∙ left.falls);
        ranges = and_right (every in_range now) _ ranged;
        rest = left.rest ∙ ap (top_after place places l) (step-all (found_at shows ws) [] still bound k gs within top left.falls) ∙ put (any is_above now && shows k);
      }
        where
          after : List Hit
          after = over_keys (found_at shows ws) [] k (λ w. map (sums w) (move_all k gs))

          put : (t : Bool) → top_after place places l (cond t (hit_at ws k now ∷ after) after) ≡ top_after place places (cond t (take places (place (hit_at ws k now) l)) l) after
          put true = refl
          put false = refl

      -- the highest window of what is left is lower
      pub lower : top_all 0 (move_all k gs) ≤ k
      lower = top-all-falls k 0 (move_all k gs) zero-le stepped.falls

-- ---- the merge of terms

module _ (W R : List ℕ) (m g : ℕ) (shows : ℕ → Bool) (places : ℕ) (H₀ : List ℕ) where
  -- the weights, and the best of all windows
  abbrev weights : List ℕ
  weights = weights_in (terms_of W R m g H₀)

  abbrev best_of : List Hit
  best_of = take places (foldr place [] (found_in shows (terms_of W R m g H₀)))

  -- it began with H₀, and has come to H with these best hits; `top` is the reach of what is left
  pub record Walking (H : List ℕ) (best : Top) (top : ℕ) : Type 0 where
    pub bound : ℕ
    pub long : length H ≡ length H₀
    pub kept : AllOf (KeptGroup W R m) (parts (4 * m + 4) g H)
    pub same : weights_in (terms_of W R m g H) ≡ weights
    pub reach : top ≡ top_all 0 (groups_in (terms_of W R m g H))
    pub held : Held places best
    pub sorted : Sorted (listed_hits best)
    pub left : Left shows places weights bound (groups_in (terms_of W R m g H)) (listed_hits best) best_of

  -- at the start
  pub walk-begun : Walkable W R m g H₀ → 1 ≤ places → places ≤ 32 → (best : Top) → best ≡ top_of [] → (top : ℕ) → top ≡ top_all 0 (groups_in (terms_of W R m g H₀)) → Walking H₀ best top
  walk-begun w p q best e top r = record {
    bound = 65536;
    long = refl;
    kept = w.kept;
    same = refl;
    reach = r;
    held = rw e (held_of places [] p q (omega arith));
    sorted = rw e tt;
    left = rw e (started shows places weights (groups_in (terms_of W R m g H₀)) w.falls w.ranges);
  }

  module _ (H : List ℕ) (best : Top) (top : ℕ) (walking : Walking H best top) where
    abbrev gs : List Group
    gs = groups_in (terms_of W R m g H)

    -- at the end
    pub walk-ended : top ≡ 0 → best ≡ top_of best_of
    walk-ended e = walking.held.clean ∙ ap top_of (sym (ended shows places weights gs walking.left (sym walking.reach ∙ e)))

    module _ (k : ℕ) (high : top ≡ suc k) where
      at_top : top_all 0 gs ≡ suc k
      at_top = sym walking.reach ∙ high

      -- the highest window is one
      pub walk-window : k < 65536
      walk-window = omega (arith, within shows places weights gs walking.left k at_top, walking.left.low)

      -- no head is above it
      pub walk_top : top_all 0 gs ≤ k + 1
      walk_top = omega (arith, at_top)

      -- its sums are in range
      pub walk-ranges : every in_range (map (head_vals k) gs) ≡ true
      walk-ranges = in-range shows places weights gs walking.left k at_top

      module _ (H' : List ℕ) (next : ℕ) (long : length H' ≡ length H) (kept : AllOf (KeptGroup W R m) (parts (4 * m + 4) g H'))
          (rests : terms_of W R m g H' ≡ map (moved k) (terms_of W R m g H)) (up : next ≡ top_all 0 (groups_in (terms_of W R m g H'))) where
        groups-moved : groups_in (terms_of W R m g H') ≡ move_all k gs
        groups-moved = ap groups_in rests ∙ moved-groups k (terms_of W R m g H)

        -- what is left has a lower highest window
        pub walk-lower : next ≤ k
        walk-lower = rw up (rw groups-moved (lower shows places weights gs walking.left k at_top))

        on : (l : List Hit) (then : Top) → listed_hits then ≡ l → Held places then → Sorted l → better shows places weights gs walking.left k at_top ≡ l → Walking H' then next
        on l then e h d f = record {
          bound = k;
          long = long ∙ walking.long;
          kept = kept;
          same = ap weights_in rests ∙ moved-weights k (terms_of W R m g H) ∙ walking.same;
          reach = up;
          held = h;
          sorted = rw e d;
          left = rw (groups-moved, e, ← f) (stepped shows places weights gs walking.left k at_top);
        }

        -- the hit of the window
        abbrev found : ℕ → Hit
        found score = record { window = k; score = score }

        module _ (score : ℕ) (weight : score ≡ score_at k (terms_of W R m g H)) (counts : (any is_above (map (head_vals k) gs) && shows k) ≡ true) where
          by_weights : score ≡ weigh_all weights (map (head_vals k) gs)
          by_weights = weight ∙ ap (λ (ws : List ℕ). weigh_all ws (map (head_vals k) gs)) walking.same

          -- past a window that shows and counts
          pub walk-placed : (then : Top) → then ≡ top_of (take places (place (found score) (listed_hits best))) → Walking H' then next
          walk-placed then e =
              on (take places (place (found score) (listed_hits best))) then (ap listed_hits e ∙ listed-of _) (rw e (held-take places _ walking.held.some walking.held.most))
              (sorted-take places _ (sorted-place (found score) (listed_hits best) walking.sorted)) (rw (counts, by_weights))

          -- past one that counts too little for a place
          pub walk-out : (ltb best.used places || outranks (found score) (get_or best.hits (places - 1) no_hit)) ≡ false → (then : Top) → then ≡ best → Walking H' then next
          walk-out n then e =
              on (listed_hits best) then (ap listed_hits e) (rw e walking.held) walking.sorted
              (rw counts (ap (λ (x : ℕ). take places (place (found x) (listed_hits best))) (sym by_weights) ∙ left_out places best (found score) walking.held walking.sorted n))

        -- past one that does not
        pub walk-passed : (any is_above (map (head_vals k) gs) && shows k) ≡ false → (then : Top) → then ≡ best → Walking H' then next
        walk-passed a then e = on (listed_hits best) then (ap listed_hits e) (rw e walking.held) walking.sorted (rw a)
