-- What one pass over the finished partitions and the buffer tells of windows: whether lists and sums are well formed, and the counts.
use Rattle.std.specs.Prelude.{Option, MatchOption, Bool, true, false, ◌&&◌, List, ◌≡◌, ℕ, ◌*◌, ◌<◌, eqb, leb, length, get_or}
use Rattle.lists.specs.Lists.{keep, any, every, elem}
use Rattle.postings.specs.declared.Posting.{Posting}
use Rattle.postings.specs.Merge.{nonzero, pairs}
use Rattle.postings.specs.Sums.{is_above}
use Rattle.state.specs.declared.State.{State}
use Rattle.state.specs.Views.{finished}
use Rattle.partitions.specs.Reading.{in_partitions, stored}
use Rattle.partitions.specs.Formed.{lists_rule, sums_in_range}
use Rattle.sums.specs.declared.Counts.{Counts}
use Rattle.kway.specs.Parts.{part}
use Rattle.scans.specs.Keys.{is_keyed}
use Rattle.sums.specs.Views.{counts_in, Neat, held_for, Tidy}

-- the postings of window w
abbrev pub of_window : ℕ → List Posting → List Posting
of_window w l = keep (λ p. eqb p.window w) l

-- a window's counts, read from the buffers: its sums that are not 0, by identifier
unfoldable pub counts_of : ℕ → List Posting → List Posting
counts_of w l = nonzero (pairs (of_window w l))

-- a window lives where one of its counts is above 0
abbrev pub is_live : List Posting → Bool
is_live counts = any (λ p. is_above p.count) counts

-- all lists of the finished partitions keep their rule
abbrev pub lists_ruled : List ℕ → State → Bool
lists_ruled W s = every (lists_rule W) (finished s.partitions)

-- a window's sums over the partitions and with the buffer are in range, and not more than 64 of them are not 0
abbrev pub window_formed : List ℕ → State → ℕ → Bool
window_formed W s w =
    sums_in_range (of_window w (in_partitions W (finished s.partitions)))
    && (sums_in_range (of_window w (stored W s)) && leb (length (counts_of w (stored W s))) 64)

-- refusal 3 past chains, headers and entries, where one window is named
unfoldable pub lists_formed : List ℕ → State → ℕ → Bool
lists_formed W s w = lists_ruled W s && window_formed W s w

-- it is not refused, and these are the window's counts
pub record ReadWell (W : List ℕ) (s : State) (w : ℕ) (c : Counts) : Type 0 where
  pub formed : lists_formed W s w ≡ true
  pub counts : counts_in c ≡ counts_of w (stored W s)
  pub neat : Neat c

-- whether that is so is told, and the counts where it is
abbrev pub ReadOf : List ℕ → State → ℕ → Option Counts → Type 0
ReadOf W s w r = MatchOption r (lists_formed W s w ≡ false) (ReadWell W s w)

-- the same of several windows: each one's counts are in its slot
pub record ReadAll (W : List ℕ) (s : State) (ws : List ℕ) (r : Bool) (T : List ℕ) : Type 0 where
  pub fine : r ≡ (lists_ruled W s && every (window_formed W s) ws)
  pub counts : r ≡ true → (w : ℕ) → elem w ws ≡ true → held_for ws T w ≡ counts_of w (stored W s)
  pub keyed : r ≡ true → (w : ℕ) → every is_keyed (counts_of w (stored W s)) ≡ true
  pub long : length T ≡ 65 * length ws
  pub tidy : (j : ℕ) → j < length ws → Tidy (get_or ws j 0) (part 65 j T)
