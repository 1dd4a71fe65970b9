-- What a merge step promises. The card at exit has a '.
use Rattle.std.specs.Prelude.{⊤}
use Rattle.std.specs.Prelude.{List, ℕ}
use Rattle.answers.specs.Numbers.{replied}
use Rattle.state.specs.declared.State.{State}
use Rattle.windows.specs.declared.After.{After}
use Rattle.windows.specs.Promises.{Gives, store_of}
use Rattle.plans.specs.Step.{step_of}

-- a merge step
abbrev pub Steps : (s : State) (card : List ℕ) (r : After ⊤) (card' : List ℕ) → Type 0
Steps s card r card' = Gives (store_of s card) (step_of (store_of s card)) (replied r.answer) (store_of r.state card')
