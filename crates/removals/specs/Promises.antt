-- What a removal promises. The card at exit has a '.
use Rattle.std.specs.Prelude.{⊤}
use Rattle.std.specs.Prelude.{List, ℕ}
use Rattle.answers.specs.Numbers.{replied}
use Rattle.state.specs.declared.State.{State}
use Rattle.windows.specs.declared.After.{After}
use Rattle.windows.specs.Promises.{Gives, store_of}
use Rattle.removals.specs.Removal.{remove_of}

-- a removal
abbrev pub Removes : (s : State) (card : List ℕ) (window : ℕ) (r : After ⊤) (card' : List ℕ) → Type 0
Removes s card window r card' = Gives (store_of s card) (remove_of (store_of s card) window) (replied r.answer) (store_of r.state card')
