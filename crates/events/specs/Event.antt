-- The event: what it answers and leaves, for every input.
use Rattle.std.specs.Prelude.{⊤}
use Rattle.std.specs.Prelude.{Bool, ◌&&◌, not, cond, List, [], ◌∷◌, ◌++◌, ℕ, suc, eqb, leb, pos, length}
use Rattle.lists.specs.Lists.{any, elem}
use Rattle.postings.specs.declared.Posting.{Posting}
use Rattle.postings.specs.Order.{same_pair}
use Rattle.postings.specs.Merge.{put}
use Rattle.answers.specs.Answers.{Outcome, leave, done}
use Rattle.answers.specs.Order as order
use Rattle.answers.specs.Order.{admit}
use Rattle.state.specs.declared.State.{State}
use Rattle.state.specs.Views.{register_size, listed, buffered, listed_of, buffer_of, with_windows, with_listed, with_buffer}
use Rattle.state.specs.Rules.{state_rule}
use Rattle.state.specs.Probe.{Probe, probe_of}
use Rattle.identifiers.specs.Names.{Name, bad_length, number_of}
use Rattle.identifiers.specs.Register.{names, register_rule, added}
use Rattle.admission.specs.Admission.{same_lengths}
use Rattle.flushes.specs.Flush.{flushing_if}
use Rattle.windows.specs.Calls.{is_open}
use Rattle.answers.specs.Numbers.{replied}
use Rattle.windows.specs.declared.After.{After}
use Rattle.windows.specs.Promises.{Gives}

-- one count of identifier i in the open window
abbrev pub once : State → ℕ → Posting
once s i = record { id = i; window = s.windows.current; count = pos 1 }

-- whether an event flushes first: the buffer is full, and does not hold the event's pair
unfoldable pub event_flushes : State → ℕ → Bool
event_flushes s i = eqb (length (buffered s.buffer)) 128 && not (any (same_pair (once s i)) (buffered s.buffer))

-- the event is counted: the identifier is listed at its first, and the pair's buffered count grows by 1. N stays until the window is closed
unfoldable pub counted : State → ℕ → State
counted s i =
    with_buffer
    (with_listed
    (with_windows s (record { last = s.windows.last; live = s.windows.live; current = s.windows.current; events = suc s.windows.events }))
    (listed_of (cond (elem i (listed s.listed)) (listed s.listed) (listed s.listed ++ (i ∷ [])))))
    (buffer_of (put (once s i) (buffered s.buffer)))

-- is an identifier new to the register
abbrev pub is_new : List ℕ → Name → Bool
is_new register n = leb (length (names register)) (number_of (names register) n)

-- the number that an identifier has, or gets as a new one
abbrev pub number_for : Probe → Name → ℕ
number_for p n = number_of (names p.register) n

-- a new identifier meets a register whose entries are all used
abbrev pub register_full : Probe → Name → Bool
register_full p n = is_new p.register n && leb (register_size p.state) (length (names p.register))

-- an identifier new to the open window would be its 65th
abbrev pub window_full : Probe → Name → Bool
window_full p n = not (elem (number_for p n) (listed p.state.listed)) && leb 64 (length (listed p.state.listed))

-- the register with the identifier in it
abbrev pub registered : List ℕ → Name → List ℕ
registered register n = cond (is_new register n) (added register n) register

-- refusals 1 to 9 as they concern an event, then a flush where its pair finds no room; then it is counted, and its identifier has an entry
unfoldable pub event_of : Probe → Name → Outcome Probe
event_of p n =
    admit order.event
    (not (state_rule p.state)
    ∷ not (same_lengths p.state.lengths p.card p.register)
    ∷ not (register_rule p.register)
    ∷ bad_length n
    ∷ not (is_open p.state)
    ∷ leb 32767 p.state.windows.events
    ∷ register_full p n
    ∷ window_full p n
    ∷ [])
    (flushing_if (event_flushes p.state (number_for p n)) p.state p.card
    (λ s card. leave done (record { state = counted s (number_for p n); card = card; register = registered p.register n })))

-- what an event promises
abbrev pub Counts : (s : State) (card register : List ℕ) (id : Name) (r : After ⊤) (card' register' : List ℕ) → Type 0
Counts s card register id r card' register' =
    Gives (probe_of s card register) (event_of (probe_of s card register) id) (replied r.answer) (probe_of r.state card' register')
