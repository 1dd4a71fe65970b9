-- The merge as a whole computes the definition. `shows` tells which windows show.
use Rattle.lists.proofs.Prelude.{Bool, true, false, cond, ◌&&◌, and-true, List, [], ◌∷◌, map, ◌≡◌, ap₂, ◌∙◌, ℕ, suc, ◌+◌, ◌*◌, ◌<◌, ◌≤◌, arith, ltb, ltb-false, ℤ, pos, negsuc, ◌+ℤ◌, +ℤ_idr, leb-true, AllOf, by-test, and_left, and_right}
use mir.Val.{bool_byte}
use Rattle.keyed.specs.Keys.{Item, head_val, head_vals, head_fine, heads_fine}
use Rattle.keyed.specs.Groups.{Group, top_all, move_all, heads_fine_all}
use Rattle.keyed.proofs.Groups as G
use Rattle.postings.specs.Sums.{above}
use Rattle.partitions.specs.Formed.{in_range}
pub use Rattle.kway.proofs.Ranges.{total-none, quiet, top-step}
use Rattle.terms.specs.declared.judging.Told.{Told}
use Rattle.std.specs.Prelude.{Option, Some, None}
use Rattle.terms.specs.Judged.{total_z, in_ranges, count_at, unspread, spread, spread_at, formed, risen, told_of, fine_at}

-- a window that counts nothing changes nothing
pub spread_none : (t : Told) → spread 0 t ≡ t
spread_none t = ap₂ {C = Told} (λ (n m : ℕ). record { windows = n; total = m }) (omega arith) (omega arith)

module _ (shows : ℕ → Bool) where
  -- sums of 0 count nothing
  pub still : (w : ℕ) (v : List ℤ) (t : Told) → AllOf G.Zero v → spread_at shows w v t ≡ t
  still w v t z = by-test (shows w) (λ y. rw (y, total-none v z) (spread_none t)) (λ y. rw y (spread_none t))

  -- what is told, where n windows count t and x is yet to come
  abbrev told : ℕ → ℕ → Told → Option Told
  told n t x = Some (record { windows = n + x.windows; total = t + x.total })

  -- the answer, where groups with windows below m are left
  abbrev pub resume : ℕ → ℕ → ℕ → List Group → Option Told
  resume m n t gs = G.resume_all in_ranges quiet (spread_at shows) unspread still None (told n t) m gs

  -- at the start all is left
  pub start : (gs : List Group) → told_of shows gs ≡ resume 65536 0 0 gs
  unfolding told_of formed risen G.resume_all
  start gs = ap₂ (λ (x y : ℕ). cond (formed gs) (Some (record { windows = x; total = y })) None) (omega arith) (omega arith)

  module _ (m n t : ℕ) (gs : List Group) where
    -- where nothing is left, what is counted is the answer
    pub ended : top_all 0 gs ≡ 0 → resume m n t gs ≡ Some (record { windows = n; total = t })
    ended e = G.ended-all in_ranges quiet (spread_at shows) unspread still None (told n t) m gs e ∙ ap₂ (λ (x y : ℕ). Some (record { windows = x; total = y })) (omega arith) (omega arith)

    -- a head that reaches a window that was passed
    pub too-high : m < top_all 0 gs → resume m n t gs ≡ None
    too-high h = G.too-high-all in_ranges quiet (spread_at shows) unspread still None (told n t) m gs h

    module _ (k : ℕ) (top : top_all 0 gs ≡ suc k) (low : suc k ≤ m) where
      -- what is taken is not well formed, or a sum not in range
      pub faulty : fine_at k gs ≡ false → resume m n t gs ≡ None
      faulty e =
          by-test (heads_fine_all k gs)
          (λ y. G.out-of-range-all in_ranges quiet (spread_at shows) unspread still None (told n t) m gs k top low (rw y at e))
          (λ y. G.not-formed-all in_ranges quiet (spread_at shows) unspread still None (told n t) m gs k top low y)

      -- one window more
      pub counted : fine_at k gs ≡ true → (c : ℕ) → c ≡ count_at shows k (map (head_vals k) gs) → resume m n t gs ≡ resume k (n + bool_byte (ltb 0 c)) (t + c) (move_all k gs)
      counted f c e =
          G.went-on-all in_ranges quiet (spread_at shows) unspread still None (told n t) m gs k top low (and_left _ _ f) (and_right (heads_fine_all k gs) _ f)
          ∙ G.resume-all-same in_ranges quiet (spread_at shows) unspread still None (λ x. told n t (spread_at shows k (map (head_vals k) gs) x)) (told (n + bool_byte (ltb 0 c)) (t + c)) (λ x. rw (← e) (on x (ltb 0 c))) k (move_all k gs)
        where
          on : (x : Told) (b : Bool) → ◌≡◌ {A = Option Told} (Some (record { windows = n + (cond b 1 0 + x.windows); total = t + (c + x.total) })) (Some (record { windows = n + bool_byte b + x.windows; total = t + c + x.total }))
          on x true = ap₂ (λ (a b : ℕ). Some (record { windows = a; total = b })) (omega arith) (omega arith)
          on x false = ap₂ (λ (a b : ℕ). Some (record { windows = a; total = b })) (omega arith) (omega arith)

-- what a sum in range counts
pub above_most : (z : ℤ) → in_range z ≡ true → above z ≤ 32767
above_most (pos n) e = leb-true n 32767 e
above_most (negsuc n) e = omega arith

pub total-most : (v : List ℤ) → in_ranges v ≡ true → above (total_z v) ≤ 32767
total-most [] e = omega arith
total-most (z ∷ v) e = above_most (z +ℤ total_z v) (and_right (in_range z) _ e)

-- so many windows and so much, with a window more that counts c
pub spread-fits : (n t m k c : ℕ) → n + m ≤ 65536 → suc k ≤ m → t ≤ 32767 * n → c ≤ 32767 → (n + bool_byte (ltb 0 c) + k ≤ 65536) × (t + c ≤ 32767 * (n + bool_byte (ltb 0 c)))
spread-fits n t m k c a b d e = by-test (ltb 0 c) (λ y. rw y (omega arith, omega arith)) (λ y. let z = ltb-false 0 c y in rw y (omega arith, omega arith))

-- ---- a group of lists beside a group of one

module _ (g : Group) (l : List Item) where
  module _ (k : ℕ) (sum total : ℤ) (s : sum ≡ head_vals k g) (t : total ≡ sum +ℤ head_val k l) where
    -- postings and sums decide
    pub fine-step : ((heads_fine k g && head_fine k l) && (in_range sum && in_range total)) ≡ fine_at k (g ∷ (l ∷ []) ∷ [])
    fine-step = rw (t, s, +ℤ_idr (head_val k l), +ℤ_idr (head_val k l), and-true (head_fine k l), and-true (head_fine k l))

    -- what counts is the sum of both
    pub counts_step : above total ≡ above (total_z (map (head_vals k) (g ∷ (l ∷ []) ∷ [])))
    counts_step = rw (t, s, +ℤ_idr (head_val k l), +ℤ_idr (head_val k l))
