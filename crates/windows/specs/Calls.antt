-- Start, open and close: what each answers and leaves, for every input.
use Rattle.std.specs.Prelude.{Bool, ◌&&◌, not, cond, List, [], ◌∷◌, ℕ, suc, ◌-◌, ◌/◌, eqb, leb, length, replicate}
use Rattle.answers.specs.Answers.{Outcome, leave, refuse_if, done, number}
use Rattle.answers.specs.Order as order
use Rattle.answers.specs.Order.{admit}
use Rattle.state.specs.declared.State.{State}
use Rattle.state.specs.Views.{listed_of, with_windows, with_listed, empty_state}
use Rattle.state.specs.Rules.{card_length, register_length, state_rule}
use Rattle.state.specs.Probe.{Probe}

-- ---- start

-- a fresh card: 255 all over, a register of zeros, and a state without windows whose block last taken is the card's last
unfoldable pub fresh : ℕ → ℕ → Probe
fresh c r = record { state = empty_state c r (c / 4096 - 1); card = replicate c 255; register = replicate r 0 }

-- both buffers have a length within the limits, or 2
unfoldable pub start_of : List ℕ → List ℕ → Outcome Probe
start_of card register =
    refuse_if (not (card_length (length card) && register_length (length register))) 2
    (leave done (fresh (length card) (length register)))

-- a refused start gives a state of zeros and leaves the buffers
unfoldable pub unstarted : List ℕ → List ℕ → Probe
unstarted card register = record { state = empty_state 0 0 0; card = card; register = register }

-- ---- open

-- the next number is given, and its window has no events yet
unfoldable pub opened : State → State
opened s =
    with_windows s (record { last = suc s.windows.last; live = s.windows.live; current = suc s.windows.last; events = 0 })

-- is a window open
abbrev pub is_open : State → Bool
is_open s = not (eqb s.windows.current 0)

unfoldable pub open_of : State → Outcome State
open_of s =
    admit order.opening (not (state_rule s) ∷ is_open s ∷ leb 65535 s.windows.last ∷ [])
    (leave (number (suc s.windows.last)) (opened s))

-- ---- close

-- no window is open; one with events is counted in N from here on, and one without gives its number back
unfoldable pub closed : State → State
closed s =
    with_listed
    (with_windows s (record { last = cond (eqb s.windows.events 0) (s.windows.last - 1) s.windows.last; live = cond (eqb s.windows.events 0) s.windows.live (suc s.windows.live); current = 0; events = 0 }))
    (listed_of [])

unfoldable pub close_of : State → Outcome State
close_of s =
    admit order.closing (not (state_rule s) ∷ not (is_open s) ∷ [])
    (leave done (closed s))
