-- Removal of several windows together: all or none.
use Rattle.std.specs.Prelude.{⊤}
use Rattle.std.specs.Prelude.{Bool, ◌&&◌, not, List, [], ◌∷◌, ℕ, leb, length}
use Rattle.lists.specs.Lists.{every, empty, different}
use Rattle.words.specs.Words.{words}
use Rattle.answers.specs.Answers.{Outcome, in_turn}
use Rattle.answers.specs.Order as order
use Rattle.answers.specs.Order.{admit}
use Rattle.answers.specs.Numbers.{replied}
use Rattle.state.specs.declared.State.{State}
use Rattle.state.specs.Views.{blocks, finished}
use Rattle.state.specs.Rules.{state_rule}
use Rattle.state.specs.Probe.{Store, has_length, store_of}
use Rattle.partitions.specs.Formed.{partitions_formed}
use Rattle.sums.specs.Tally.{lists_ruled, window_formed}
use Rattle.windows.specs.declared.After.{After}
use Rattle.windows.specs.Promises.{Gives}
use Rattle.removals.specs.Removal.{remove_of}

-- refusal 16: a list names at least one window, at most 32, and none twice
abbrev pub batch_rule : List ℕ → Bool
batch_rule ws = not (empty ws) && (leb (length ws) 32 && different ws)

-- refusal 3: all finished partitions and all their lists, and of every window named what a removal of it reads
unfoldable pub batch_formed : List ℕ → State → List ℕ → Bool
batch_formed W s ws = partitions_formed W (blocks s) (finished s.partitions) && (lists_ruled W s && every (window_formed W s) ws)

-- the call: refusals 1 to 3, for the card and every window named, then 16, and then the single removals in the order given
unfoldable pub remove_all_of : Store → List ℕ → Outcome Store
remove_all_of p ws =
    admit order.removals
    (not (state_rule p.state)
    ∷ not (has_length p.card p.state.lengths.card)
    ∷ not (batch_formed (words p.card) p.state ws)
    ∷ not (batch_rule ws)
    ∷ [])
    (in_turn remove_of p ws)

-- what it promises
abbrev pub RemovesAll : (s : State) (card : List ℕ) (ws : List ℕ) (r : After ⊤) (card' : List ℕ) → Type 0
RemovesAll s card ws r card' = Gives (store_of s card) (remove_all_of (store_of s card) ws) (replied r.answer) (store_of r.state card')
