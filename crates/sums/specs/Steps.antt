-- The pass over heads and buffer: where it begins, and what is kept of one key.
use Rattle.std.specs.Prelude.{Bool, true, cond, ◌&&◌, List, [], ◌∷◌, ◌++◌, map, ◌≡◌, ℕ, ◌*◌, ◌≤◌, leb, ℤ, length}
use Rattle.lists.specs.All.{AllOf}
use Rattle.lists.specs.Lists.{every}
use Rattle.keyed.specs.Keys.{topmost_from}
use Rattle.postings.specs.declared.Posting.{Posting}
use Rattle.postings.specs.Merge.{is_zero}
use Rattle.state.specs.declared.Buffer.{Buffer}
use Rattle.state.specs.declared.State.{State}
use Rattle.state.specs.Views.{finished}
use Rattle.state.specs.Rules.{state_rule}
use Rattle.partitions.specs.Reading.{postings_of}
use Rattle.partitions.specs.Formed.{in_range, span_rule}
use Rattle.kway.specs.Parts.{parts}
use Rattle.scans.specs.Keys.{key_window, posting_of}
use Rattle.scans.specs.Heads.{ahead, views, Kept}
use Rattle.sums.specs.Views.{held_in, Tidy}

-- the count of a key, none where its total is 0
abbrev pub count_at : ℕ → ℤ → List Posting
count_at k z = cond (is_zero z) [] (posting_of (record { key = k; sum = z }) ∷ [])

-- one key of a window more, in the window's slot: its sum over the partitions and its total with the buffer fit, and there are not more than 64 counts with
-- its own
pub record Counted (l : List ℕ) (k : ℕ) (sum total : ℤ) (r : Bool) (l' : List ℕ) : Type 0 where
  pub fine : r ≡ ((in_range sum && in_range total) && leb (length (held_in (key_window k) l ++ count_at k total)) 64)
  pub counts : r ≡ true → held_in (key_window k) l' ≡ held_in (key_window k) l ++ count_at k total
  pub tidy : Tidy (key_window k) l'

-- every finished partition has its head at its first posting, and the greatest key of all is known; b is the buffer, and the windows are those that the records
-- tell
pub record Begun (W : List ℕ) (s : State) (b : Buffer) (H : List ℕ) (start : ℕ) : Type 0 where
  pub rule : state_rule s ≡ true
  pub buffer : b ≡ s.buffer
  pub room : 10 * s.partitions.used ≤ length H
  pub kept : AllOf (Kept W) (parts 10 s.partitions.used H)
  pub lists : map (ahead W) (parts 10 s.partitions.used H) ≡ map (postings_of W) (finished s.partitions)
  pub top : start ≡ topmost_from 0 (views W s.partitions.used H)
  pub spans : every (λ p. span_rule p (postings_of W p)) (finished s.partitions) ≡ true
