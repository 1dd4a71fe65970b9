-- What a merge of groups of lists tells: whether they are well formed, with the sums of every window in range, and of the windows that show in how many
-- the sum over all groups is above 0, and what these sums come to. `shows` tells of a window whether it does.
use Rattle.std.specs.Prelude.{Option, Some, None, Bool, true, cond, ◌&&◌, List, map, ℕ, ◌+◌, ltb, ℤ}
use Rattle.keyed.specs.Keys.{sums, over_keys, head_vals}
use Rattle.keyed.specs.Groups.{Group, all_fall_all, heads_fine_all}
use Rattle.postings.specs.Sums.{above}
pub use Rattle.kway.specs.Ranges.{total_z, in_ranges}
use Rattle.terms.specs.declared.judging.Told.{Told}

-- the test of every window
abbrev pub ranges : ℕ → List ℤ → Bool → Bool
ranges w v b = in_ranges v && b

-- what a window counts: the sum over all groups where that is above 0 and the window shows, else nothing
abbrev pub count_at : (ℕ → Bool) → ℕ → List ℤ → ℕ
count_at shows w v = cond (shows w) (above (total_z v)) 0

-- in how many windows something counts, and how much in all: over no window
abbrev pub unspread : Told
unspread = record { windows = 0; total = 0 }

-- with a window more that counts n
abbrev pub spread : ℕ → Told → Told
spread n t = record { windows = cond (ltb 0 n) 1 0 + t.windows; total = n + t.total }

-- with the window w more, whose sums are v
abbrev pub spread_at : (ℕ → Bool) → ℕ → List ℤ → Told → Told
spread_at shows w v t = spread (count_at shows w v) t

-- every list falls from window to window, no posting is malformed, and every window's sums are in range
unfoldable pub formed : List Group → Bool
formed gs = all_fall_all 65536 gs && over_keys ranges true 65536 (λ w. map (sums w) gs)

-- F, the number of windows that show and have a sum above 0, and these sums together
unfoldable pub risen : (ℕ → Bool) → List Group → Told
risen shows gs = over_keys (spread_at shows) unspread 65536 (λ w. map (sums w) gs)

-- what the merge tells, where what it reads is well formed
unfoldable pub told_of : (ℕ → Bool) → List Group → Option Told
told_of shows gs = cond (formed gs) (Some (risen shows gs)) None

-- whether what is taken under a window is well formed, with sums in range
abbrev pub fine_at : ℕ → List Group → Bool
fine_at k gs = heads_fine_all k gs && in_ranges (map (head_vals k) gs)
