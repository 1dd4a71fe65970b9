-- `forecasts::counting::flushed` meets its contract.
use Rattle.lists.proofs.Prelude.{add-one, not-true, not-false}
use Rattle.forecasts.proofs.counting.flushed.Goals as goal

pub returns-then-not-wanted : goal.returns-then-not-wanted
returns-then-not-wanted c = rw (not-true c.args.wanted c.if-not-wanted.true-raw)

pub returns : goal.returns
returns c =
    rw (not-false c.args.wanted c.if-not-wanted.false-raw, c.new.ensures) (simp add-one)
