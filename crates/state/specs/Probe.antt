-- What calls work on: the state together with the buffers that a call is lent.
use Rattle.std.specs.Prelude.{Bool, List, ℕ, eqb, length}
use Rattle.state.specs.declared.State.{State}

-- a state and the card's bytes
pub record Store : Type 0 where
  pub state : State
  pub card : List ℕ

-- a state, and the bytes of card and register
pub record Probe : Type 0 where
  pub state : State
  pub card : List ℕ
  pub register : List ℕ

-- refusal 2: a buffer has the length given at the start; that this lies within the limits is a rule of the state
abbrev pub has_length : List ℕ → ℕ → Bool
has_length buffer n = eqb (length buffer) n

-- a state with a card
abbrev pub store_of : State → List ℕ → Store
store_of s card = record { state = s; card = card }

-- a state with both buffers
abbrev pub probe_of : State → List ℕ → List ℕ → Probe
probe_of s card register = record { state = s; card = card; register = register }
