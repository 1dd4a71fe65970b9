-- The calls of a plan, each with its place.
use Rattle.std.specs.Prelude.{List, [], ◌∷◌, ◌++◌, ℕ, suc}
use Rattle.identifiers.specs.Names.{Name}

-- a window of a plan is opened, its events are counted, and it is closed; there are no merge steps between
pub data Planned : Type 0 where
  opening : Planned
  counting : Name → Planned
  closing : Planned

-- a call in a plan's window, from 1; an event's number in it, from 1, and 0 for the open
pub record Placed : Type 0 where
  pub window : ℕ
  pub event : ℕ
  pub call : Planned

-- the events of the w-th window from the j-th on, and its close
abbrev pub event_calls : ℕ → ℕ → List Name → List Placed
event_calls w j [] = record { window = w; event = j; call = closing } ∷ []
event_calls w j (n ∷ ns) = record { window = w; event = j; call = counting n } ∷ event_calls w (suc j) ns

-- the calls of windows from the w-th on
abbrev pub window_calls : ℕ → List (List Name) → List Placed
window_calls w [] = []
window_calls w (ns ∷ rest) = record { window = w; event = 0; call = opening } ∷ (event_calls w 1 ns ++ window_calls (suc w) rest)

-- the calls of a plan
unfoldable pub plan_calls : List (List Name) → List Placed
plan_calls windows = window_calls 1 windows
