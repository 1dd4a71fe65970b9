-- A window lives where its total under some key is above 0: what the walk tells of that, key by key, and that it is what the counts tell.
use Rattle.lists.proofs.Prelude.{Bool, true, false, cond, ◌&&◌, ◌||◌, and-true, and-false, or-false, or_assoc, List, [], ◌∷◌, map, ◌≡◌, refl, sym, ap, ◌∙◌, ℕ, zero, suc, ◌<◌, ◌≤◌, eqb, ℤ, every, AllOf, by-test}
use Rattle.keyed.specs.Keys.{sums, over_keys, head_vals}
use Rattle.keyed.specs.Groups.{Group, top_all, all_fall_all, move_all, heads_fine_all}
use Rattle.keyed.proofs.Walk.{over_none}
use Rattle.keyed.proofs.Groups as G
use Rattle.words.specs.Words.{Below}
use Rattle.postings.specs.Merge.{is_zero}
use Rattle.postings.specs.Sums.{is_above}
use Rattle.postings.proofs.Sums.{is-zero}
use Rattle.state.specs.declared.Buffer.{Buffer}
use Rattle.state.specs.Views.{buffered}
use Rattle.partitions.specs.Formed.{list_rule}
use Rattle.kway.specs.Parts.{parts}
use Rattle.kway.specs.Ranges.{total_z}
use Rattle.kway.proofs.Ranges.{total-none}
use Rattle.scans.specs.Keys.{key_window, item_of, is_keyed}
use Rattle.scans.specs.Heads.{Kept}
use Rattle.sums.specs.Tally.{counts_of, is_live}
use Rattle.sums.proofs.Tally.{gathered, window_gathered, buffer_items, groups}
use Rattle.sums.proofs.Tallies.{gathered-counts, falls-lists}
use Rattle.sums.proofs.ReadBack.{views-lists, heads-keyed}
use Rattle.census.specs.Walks.{lists, held, Orderly}

module _ (w : ℕ) where
  -- the window lives by the totals under the key k, or did before
  abbrev pub living : ℕ → List ℤ → Bool → Bool
  living k v b = (eqb (key_window k) w && is_above (total_z v)) || b

  -- sums of 0 change nothing
  pub still : (k : ℕ) (v : List ℤ) (b : Bool) → AllOf G.Zero v → living k v b ≡ b
  still k v b z = rw (total-none v z, and-false (eqb (key_window k) w))

  abbrev pub any_sum : List ℤ → Bool
  any_sum v = true

  -- are all lists well formed, and does the window live, where groups with keys below m are left and b tells of those passed
  abbrev pub resume : ℕ → Bool → List Group → Bool
  resume m b gs = G.resume_all any_sum (λ v z. refl) living false still false (λ (x : Bool). b || x) m gs

  pub begun : (m : ℕ) (b : Bool) (gs : List Group) → resume m b gs ≡ cond (all_fall_all m gs) (b || over_keys living false m (λ k. map (sums k) gs)) false
  unfolding G.resume_all
  begun m b gs = rw (over_none (λ (k : ℕ) (v : List ℤ) (x : Bool). x) true m (λ k. map (sums k) gs) (λ j r. refl), and-true (all_fall_all m gs))

  module _ (m : ℕ) (b : Bool) (gs : List Group) where
    -- where nothing is left, those passed tell
    pub ended : top_all 0 gs ≡ 0 → resume m b gs ≡ b
    ended e = G.ended-all any_sum (λ v z. refl) living false still false (λ (x : Bool). b || x) m gs e ∙ or-false b

    -- a head that reaches a key that was passed
    pub too-high : m < top_all 0 gs → resume m b gs ≡ false
    too-high h = G.too-high-all any_sum (λ v z. refl) living false still false (λ (x : Bool). b || x) m gs h

    module _ (k : ℕ) (top : top_all 0 gs ≡ suc k) (low : suc k ≤ m) where
      -- a head that is not well formed
      pub ill-formed : heads_fine_all k gs ≡ false → resume m b gs ≡ false
      ill-formed e = G.not-formed-all any_sum (λ v z. refl) living false still false (λ (x : Bool). b || x) m gs k top low e

      -- the walk goes on
      pub went_on : heads_fine_all k gs ≡ true → (c : Bool) → c ≡ (b || (eqb (key_window k) w && is_above (total_z (map (head_vals k) gs)))) → resume m b gs ≡ resume k c (move_all k gs)
      went_on e c q =
          G.went-on-all any_sum (λ v z. refl) living false still false (λ (x : Bool). b || x) m gs k top low e refl
          ∙ G.resume-all-same any_sum (λ v z. refl) living false still false (λ (x : Bool). b || living k (map (head_vals k) gs) x) (λ (x : Bool). c || x)
          (λ x. sym (or_assoc b (eqb (key_window k) w && is_above (total_z (map (head_vals k) gs))) x) ∙ ap (λ (y : Bool). y || x) (sym q)) k (move_all k gs)

  -- the window lives where one of the totals gathered is above 0
  lives-gathered : (S : ℕ → List ℤ) (m : ℕ) → over_keys living false m S ≡ is_live (over_keys (gathered w) [] m S)
  unfolding over_keys
  lives-gathered S zero = refl
  lives-gathered S (suc m) =
      by-test (eqb (key_window m) w)
      (λ y. by-test (is_zero (total_z (S m)))
      (λ z. rw (y, z, is-zero (total_z (S m)) z) (lives-gathered S m))
      (λ n. rw (y, n, lives-gathered S m)))
      (λ n. rw n (lives-gathered S m))

-- ---- heads and buffer

module _ (W : List ℕ) (n : ℕ) (H : List ℕ) (b : Buffer) (small : Below 4294967296 W) (kept : AllOf (Kept W) (parts 10 n H)) (ok : Orderly b) where
  lists-keyed : every (every is_keyed) (lists W n H) ≡ true
  lists-keyed = heads-keyed W small (parts 10 n H) kept

  groups-same : groups W n H b 0 ≡ map (map item_of) (lists W n H) ∷ (map item_of (buffered b) ∷ []) ∷ []
  unfolding buffer_items
  groups-same = ap (λ (x : Group). x ∷ (map item_of (buffered b) ∷ []) ∷ []) (views-lists W (parts 10 n H))

  falls-same : all_fall_all 67108864 (groups W n H b 0) ≡ every list_rule (lists W n H)
  falls-same = ap (all_fall_all 67108864) groups-same ∙ falls-lists 0 (lists W n H) (buffered b) lists-keyed ok.keyed ok.ruled

  lives-same : (w : ℕ) → over_keys (living w) false 67108864 (λ k. map (sums k) (groups W n H b 0)) ≡ is_live (counts_of w (held W n H b))
  unfolding window_gathered
  lives-same w =
      ap (λ (gs : List Group). over_keys (living w) false 67108864 (λ k. map (sums k) gs)) groups-same
      ∙ lives-gathered w (λ k. map (sums k) (map (map item_of) (lists W n H) ∷ (map item_of (buffered b) ∷ []) ∷ [])) 67108864
      ∙ ap is_live (gathered-counts w (lists W n H) (buffered b) lists-keyed ok.keyed)

  -- at the start all is left
  pub start-formed : every list_rule (lists W n H) ≡ resume 0 67108864 true (groups W n H b 0)
  start-formed = sym falls-same ∙ sym (begun 0 67108864 true (groups W n H b 0) ∙ same (all_fall_all 67108864 (groups W n H b 0)))
    where
      same : (x : Bool) → cond x true false ≡ x
      same true = refl
      same false = refl

  pub start-lives : (w : ℕ) → (every list_rule (lists W n H) && is_live (counts_of w (held W n H b))) ≡ resume w 67108864 false (groups W n H b 0)
  start-lives w =
      sym (begun w 67108864 false (groups W n H b 0) ∙ rw (falls-same, lives-same w) (same (every list_rule (lists W n H)) (is_live (counts_of w (held W n H b)))))
    where
      same : (x y : Bool) → cond x y false ≡ (x && y)
      same true y = refl
      same false y = refl
