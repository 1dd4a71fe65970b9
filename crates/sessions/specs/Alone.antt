-- A line for which card and register do not matter.
use Rattle.std.specs.Prelude.{List, ℕ}
use Rattle.std.specs.Prelude.{Option}
use Rattle.state.specs.declared.State.{State}
use Rattle.windows.specs.Promises.{probe_of}
use Rattle.engine.specs.Calls.{Call}
use Rattle.sessions.specs.Answering.{Obeys}

-- it is obeyed whatever they are, and they are left as they are
abbrev pub ObeysAlone : State → Option Call → List ℕ → ℕ → State → Type 0
ObeysAlone s c buffer n after = (card register : List ℕ) → Obeys (probe_of s card register) c buffer n (probe_of after card register)
