-- `queries::walking::walk` meets its contract. The invariant: the best so far and what is left give the best of all. The measure is the reach of what is left.
use Rattle.lists.proofs.Prelude.{Bool, ℕ}
use Rattle.words.specs.Words.{words}
use Rattle.state.specs.Shown.{shows_in}
use Rattle.queries.proofs.Walked.{Walking}
use Rattle.queries.proofs.walking.walk.Given as goal

-- the windows that show
abbrev pub seen : ℕ → ℕ → ℕ → ℕ → Bool
seen f l o w = shows_in (record { first = f; last = l }) o w

abbrev pub invariant-loop-top : goal.invariant-loop-top
invariant-loop-top l = Walking (words l.card) l.run l.m l.g (seen l.first l.last l.current) l.places l.initial.heads l.heads l.best l.top

abbrev pub decreases-loop-top : goal.decreases-loop-top
decreases-loop-top l = l.top
