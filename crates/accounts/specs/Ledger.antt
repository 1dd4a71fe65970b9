-- The ledger: what a plain list of windows would say. It has each window's counts, the highest number handed out and the names it has met, and knows nothing of partitions.
use Rattle.std.specs.Prelude.{Bool, true, false, ◌&&◌, cond, List, [], ◌∷◌, ◌++◌, ℕ, suc, ◌-◌, eqb, ltb, length, get_or}
use Rattle.lists.specs.Lists.{keep, any, down, same}
use Rattle.postings.specs.declared.Stretch.{Stretch}
use Rattle.state.specs.Shown.{within}
use Rattle.identifiers.specs.Names.{Name, among}

-- the last number given, which an open window has; the identifiers ever counted, in order of first count; the open window's events and identifiers;
-- and the count of an identifier in a window, 0 where the window is not live
pub record Ledger : Type 0 where
  pub last : ℕ
  pub identifiers : List Name
  pub is_open : Bool
  pub events : ℕ
  pub listed : List Name
  pub count : Name → ℕ → ℕ

unfoldable pub empty_ledger : Ledger
empty_ledger = record { last = 0; identifiers = []; is_open = false; events = 0; listed = []; count = λ n w. 0 }

-- a window that has been counted in and not removed
unfoldable pub live : Ledger → ℕ → Bool
live l w = any (λ n. ltb 0 (l.count n w)) l.identifiers

-- the windows that show, from the highest down: the closed ones. An open window has the last number given
unfoldable pub shown : Ledger → List ℕ
shown l = down (cond l.is_open (l.last - 1) l.last)

-- N: how many of them are live
unfoldable pub existing : Ledger → ℕ
existing l = length (keep (live l) (shown l))

-- the windows of a stretch that show, and N there
unfoldable pub shown_within : Stretch → Ledger → List ℕ
shown_within t l = keep (within t) (shown l)

unfoldable pub existing_within : Stretch → Ledger → ℕ
existing_within t l = length (keep (live l) (shown_within t l))

-- the count by an identifier's number, its place in the order of first count
abbrev pub count_by_number : Ledger → ℕ → ℕ → ℕ
count_by_number l i w = l.count (get_or l.identifiers i []) w

-- ---- what the calls do to it

-- the next number is given
unfoldable pub opens : Ledger → Ledger
opens l = record { last = suc l.last; identifiers = l.identifiers; is_open = true; events = 0; listed = []; count = l.count }

-- a close, from which on the window shows; the number of one that saw no event is free again
unfoldable pub closes : Ledger → Ledger
closes l = record { last = cond (eqb l.events 0) (l.last - 1) l.last; identifiers = l.identifiers; is_open = false; events = 0; listed = []; count = l.count }

-- n at the end, unless it is there
abbrev pub including : List Name → Name → List Name
including ms n = cond (among n ms) ms (ms ++ (n ∷ []))

-- an event adds 1 to its identifier's count in the open window
unfoldable pub counts : Ledger → Name → Ledger
counts l n = record {
  last = l.last;
  identifiers = including l.identifiers n;
  is_open = l.is_open;
  events = suc l.events;
  listed = including l.listed n;
  count = λ m w. cond (same n m && eqb l.last w) (suc (l.count m w)) (l.count m w);
}

-- removal takes out a closed window
unfoldable pub removes : Ledger → ℕ → Ledger
removes l w = record { last = l.last; identifiers = l.identifiers; is_open = l.is_open; events = l.events; listed = l.listed; count = λ m v. cond (eqb w v) 0 (l.count m v) }
