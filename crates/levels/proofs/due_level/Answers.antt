use Rattle.lists.proofs.Prelude.{true, false, ◌≡◌, refl, ◌∙◌, ◌-◌, arith, leb, le-leb, lt-leb, below}
use Rattle.state.specs.Views.{finished}
use Rattle.state.specs.Levels.{of_level, due_at}
use Rattle.levels.proofs.Counts.{below-pred, below-zero}
use Rattle.levels.proofs.due_level.Goals as goal

pub loop-v-init : goal.loop-v-init
unfolding below
loop-v-init c = refl

pub returns-then-of_level-due_at : goal.returns-then-of_level-due_at
returns-then-of_level-due_at c =
    let p = c.args.p in
    let v = c.loop-v.v in
    let due : leb (due_at (v - 1)) (of_level (λ q. q.level) (v - 1) (finished p)) ≡ true = le-leb _ _ (rw (c.of_level.ensures, c.due_at.ensures) at c.if-of_level-due_at.true) in
    rw (c.loop-v.invariant, below-pred v (omega arith), due)

pub loop-v-preserved : goal.loop-v-preserved
loop-v-preserved c =
    let p = c.args.p in
    let v = c.loop-v.v in
    let due : leb (due_at (v - 1)) (of_level (λ q. q.level) (v - 1) (finished p)) ≡ false = lt-leb _ _ (rw (c.of_level.ensures, c.due_at.ensures) at c.if-of_level-due_at.false) in
    c.loop-v.invariant ∙ rw (below-pred v (omega arith), due)

pub returns : goal.returns
returns c = rw (c.loop-v.invariant, below-zero c.loop-v.v (omega arith))
