-- The calls as data, with their arguments.
use Rattle.std.specs.Prelude.{List, ℕ}
use Rattle.postings.specs.declared.Stretch.{Stretch}

-- an event and a mean have an identifier's bytes, a removal a window or several, a query so many places in its list, a stretch of windows and the bytes of each
-- identifier, and a forecast a plan's entries and how many belong to each window
pub data Call : Type 0 where
  Open : Call
  Event : List ℕ → Call
  Close : Call
  Remove : ℕ → Call
  RemoveAll : List ℕ → Call
  Flush : Call
  Step : Call
  Query : ℕ → Stretch → List (List ℕ) → Call
  Mean : List ℕ → Call
  Forecast : List ℕ → List ℕ → Call
