use Rattle.lists.proofs.Prelude.{sym, ◌+◌, arith, ne_eqb, take_all, total_by}
use Rattle.recordings.proofs.Windows.{total-take, total-front, none_left}
use Rattle.recordings.proofs.adds_up.Goals as goal

pub returns-then-left-n : goal.returns-then-left-n
returns-then-left-n c =
    let counts = c.args.counts.now in
    sym (ne_eqb (total_by (λ n. n) counts) _ (λ e. omega (arith, total-take counts c.loop-n.n-index (omega arith), total-front counts (c.loop-n.n-index + 1))))

pub loop-n-preserved : goal.loop-n-preserved
loop-n-preserved c = omega (arith, total-take c.args.counts.now c.loop-n.n-index (omega arith))

pub returns : goal.returns
returns c =
    let counts = c.args.counts.now in
    none_left _ _ _ (rw (take_all c.loop-n.n-index counts (omega arith)) at c.loop-n.invariant)
