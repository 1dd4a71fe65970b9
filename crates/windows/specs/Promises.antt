-- What each call promises: its answer and all that is there at its end are those of its outcome. A buffer at exit has a '.
use Rattle.std.specs.Prelude.{List, ◌≡◌, ℕ, ⊤}
use Rattle.answers.specs.Answers.{Answer, Outcome, answer_of, state_of}
use Rattle.answers.specs.Numbers.{replied, opened_as}
pub use Rattle.state.specs.Probe.{store_of, probe_of}
use Rattle.state.specs.declared.State.{State}
use Rattle.windows.specs.declared.After.{After}
use Rattle.windows.specs.Calls.{start_of, unstarted, open_of, close_of}

-- the answer a, and what is there afterwards, are those of the outcome o, where s was there before
pub record Gives {S : Type 0} (s : S) (o : Outcome S) (a : Answer) (after : S) : Type 0 where
  pub answer : a ≡ answer_of o
  pub left : after ≡ state_of s o

-- a start
abbrev pub Starts : (card register : List ℕ) (r : After ⊤) (card' register' : List ℕ) → Type 0
Starts card register r card' register' =
    Gives (unstarted card register) (start_of card register) (replied r.answer) (probe_of r.state card' register')

-- an open
abbrev pub Opens : (s : State) (r : After ℕ) → Type 0
Opens s r = Gives s (open_of s) (opened_as r.answer) r.state

-- a close
abbrev pub Closes : (s : State) (r : After ⊤) → Type 0
Closes s r = Gives s (close_of s) (replied r.answer) r.state
