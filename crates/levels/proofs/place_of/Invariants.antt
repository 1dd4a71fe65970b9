-- `levels::place_of` meets its contract. The invariant: what is found from the place on, found from there.
use Rattle.lists.proofs.Prelude.{◌≡◌, ◌+◌, drop}
use Rattle.state.specs.Views.{finished}
use Rattle.state.specs.Levels.{oldest_at}
use Rattle.levels.proofs.place_of.Given as goal

abbrev pub invariant-loop-i : goal.invariant-loop-i
invariant-loop-i l = oldest_at (λ q. q.level) l.level (finished l.p) ≡ l.i + oldest_at (λ q. q.level) l.level (drop l.i (finished l.p))
