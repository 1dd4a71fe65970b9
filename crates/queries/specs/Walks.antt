-- The hits of the second pass over several terms, one to an identifier: by falling window, each window once. `shows` tells of a window whether it does.
use Rattle.std.specs.Prelude.{Bool, true, cond, ◌&&◌, List, [], ◌∷◌, map, ◌≡◌, ℕ, ◌+◌, ◌*◌, ◌≤◌, ℤ, length}
use Rattle.lists.specs.Lists.{any, every}
use Rattle.lists.specs.All.{AllOf}
use Rattle.keyed.specs.Keys.{sums, over_keys}
use Rattle.keyed.specs.Groups.{Group, all_fall_all}
use Rattle.postings.specs.Sums.{is_above}
use Rattle.answers.specs.declared.Hit.{Hit}
use Rattle.partitions.specs.Formed.{in_range}
use Rattle.kway.specs.Parts.{parts}
use Rattle.scores.specs.Terms.{Term, KeptGroup, terms_of}
use Rattle.scores.specs.Scores.{groups_in, weights_in, weigh_all}

-- the hit of the window w, where its sums are v and the identifiers' weights ws
abbrev pub hit_at : List ℕ → ℕ → List ℤ → Hit
hit_at ws w v = record { window = w; score = weigh_all ws v }

-- it comes before those of lower windows, where it shows and one of its sums is above 0
abbrev pub found_at : (ℕ → Bool) → List ℕ → ℕ → List ℤ → List Hit → List Hit
found_at shows ws w v r = cond (any is_above v && shows w) (hit_at ws w v ∷ r) r

-- the hits of all windows that show, of lists with these weights
unfoldable pub found_by : (ℕ → Bool) → List ℕ → List Group → List Hit
found_by shows ws gs = over_keys (found_at shows ws) [] 65536 (λ w. map (sums w) gs)

abbrev pub found_in : (ℕ → Bool) → List Term → List Hit
found_in shows ts = found_by shows (weights_in ts) (groups_in ts)

-- g terms of m lists each that can be merged: they may be read, their lists fall, and every sum is within ±32,767
pub record Walkable (W R : List ℕ) (m g : ℕ) (H : List ℕ) : Type 0 where
  pub fits : (4 * m + 4) * g ≤ length H
  pub short : length H ≤ 65536
  pub lists : m ≤ 52
  pub terms : g ≤ 5
  pub kept : AllOf (KeptGroup W R m) (parts (4 * m + 4) g H)
  pub falls : all_fall_all 65536 (groups_in (terms_of W R m g H)) ≡ true
  pub ranges : (w : ℕ) → every in_range (map (sums w) (groups_in (terms_of W R m g H))) ≡ true
