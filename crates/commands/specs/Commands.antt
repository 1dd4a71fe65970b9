-- What a line says: a call of the engine, or nothing.
use Rattle.std.specs.Prelude.{cond, List, [], ◌∷◌, ◌≡◌, ℕ, ◌+◌, ◌≤◌, eqb, length, get_or, drop}
use Rattle.std.specs.Prelude.{Option, None, Some}
use Rattle.identifiers.specs.Names.{Name}
use Rattle.answers.specs.Calls.{Call, Open, Event, Close, Remove, Flush, Step, Query}
use Rattle.stretches.specs.Reached.{whole}
use Rattle.texts.specs.Fields.{parts_of, number_in}
use Rattle.commands.specs.declared.Change.{Change}
use Rattle.commands.specs.declared.Change.TheVariants as change
use Rattle.commands.specs.declared.Order.{Order}
use Rattle.commands.specs.declared.Order.TheVariants as order

-- a command without further fields
unfoldable pub alone : Call → List Name → Option Call
alone c [] = Some c
alone c (f ∷ fs) = None

-- an event has one identifier
unfoldable pub event_in : List Name → Option Call
event_in [] = None
event_in (id ∷ []) = Some (Event id)
event_in (id ∷ f ∷ fs) = None

-- a removal of the window with this number, if it is one
unfoldable pub remove_by : Option ℕ → Option Call
remove_by None = None
remove_by (Some w) = Some (Remove w)

-- a removal has one number
unfoldable pub remove_in : List Name → Option Call
remove_in [] = None
remove_in (f ∷ []) = remove_by (number_in f)
remove_in (f ∷ g ∷ fs) = None

-- a query of all windows with so many places, if that is a number
unfoldable pub query_by : Option ℕ → List Name → Option Call
query_by None ids = None
query_by (Some k) ids = Some (Query k whole ids)

-- a query has its number of places, and none or more identifiers
unfoldable pub query_in : List Name → Option Call
query_in [] = None
query_in (f ∷ ids) = query_by (number_in f) ids

-- by the command's letter, O E C R F M Q, and the fields after it
unfoldable pub by_letter : ℕ → List Name → Option Call
by_letter b fs =
    cond (eqb b 79) (alone Open fs)
    (cond (eqb b 69) (event_in fs)
    (cond (eqb b 67) (alone Close fs)
    (cond (eqb b 82) (remove_in fs)
    (cond (eqb b 70) (alone Flush fs)
    (cond (eqb b 77) (alone Step fs)
    (cond (eqb b 81) (query_in fs) None))))))

-- the call that a line's fields say; the first is one letter
unfoldable pub call_in : List Name → Option Call
call_in [] = None
call_in ([] ∷ fs) = None
call_in ((b ∷ []) ∷ fs) = by_letter b fs
call_in ((b ∷ c ∷ f) ∷ fs) = None

-- the call that a line says
abbrev pub command_of : List ℕ → Option Call
command_of line = call_in (parts_of line)

-- the call of an order of the code, whose identifiers are fields
abbrev pub changing : Change → List Name → Call
changing change.Event fs = Event (get_or fs 1 [])
changing change.Close fs = Close
changing (change.Remove w) fs = Remove w
changing change.Flush fs = Flush
changing change.Step fs = Step

abbrev pub meant : Option Order → List Name → Option Call
meant (Some order.Open) fs = Some Open
meant (Some (order.Change k)) fs = Some (changing k fs)
meant (Some (order.Query k)) fs = Some (Query k whole (drop 2 fs))
meant None fs = None

-- how many fields an order needs
abbrev pub change_reach : Change → ℕ
change_reach change.Event = 2
change_reach change.Close = 0
change_reach (change.Remove w) = 0
change_reach change.Flush = 0
change_reach change.Step = 0

abbrev pub reach : Option Order → ℕ
reach (Some order.Open) = 0
reach (Some (order.Change k)) = change_reach k
reach (Some (order.Query k)) = 2
reach None = 0

-- the orders of a removal and of a query, by the number that they have
abbrev pub remove_order : Option ℕ → Option Order
remove_order None = None
remove_order (Some w) = Some (order.Change (change.Remove w))

abbrev pub query_order : Option ℕ → Option Order
query_order None = None
query_order (Some k) = Some (order.Query k)

-- the order that a letter and the fields after it give, whatever the field before them
pub record Names (b : ℕ) (fs : List Name) (o : Option Order) : Type 0 where
  pub call : (f : Name) → meant o (f ∷ fs) ≡ by_letter b fs
  pub held : reach o ≤ length fs + 1

-- the order that these fields give
pub record Means (fs : List Name) (o : Option Order) : Type 0 where
  pub call : meant o fs ≡ call_in fs
  pub held : reach o ≤ length fs
