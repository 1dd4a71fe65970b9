-- `levels::due_level` meets its contract. The invariant: no level from the place on is due.
use Rattle.lists.proofs.Prelude.{◌≡◌, leb, keep, below}
use Rattle.state.specs.Views.{finished}
use Rattle.state.specs.Levels.{of_level, due_levels, due_at}
use Rattle.levels.proofs.due_level.Given as goal

abbrev pub invariant-loop-v : goal.invariant-loop-v
invariant-loop-v l = due_levels (λ q. q.level) (finished l.p) ≡ keep (λ x. leb (due_at x) (of_level (λ q. q.level) x (finished l.p))) (below l.v)
