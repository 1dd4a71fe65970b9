-- `recordings::recording_ok` meets its contract, test by test.
use Rattle.lists.proofs.Prelude.{sym, eq-eqb, ne_eqb, passed, failed}
use Rattle.recordings.specs.Recording.{recording_rule}
use Rattle.recordings.proofs.recording_ok.Goals as goal

pub returns-then-plan-ne0 : goal.returns-then-plan-ne0
unfolding recording_rule
returns-then-plan-ne0 c = sym (rw (ne_eqb _ _ c.if-plan-ne0.true))

pub returns-then-not-adds_up : goal.returns-then-not-adds_up
unfolding recording_rule
returns-then-not-adds_up c = sym (rw (eq-eqb _ _ c.if-plan-ne0.false, failed c.adds_up.ensures c.if-not-adds_up.true-raw))

pub returns : goal.returns
unfolding recording_rule
returns c =
    rw (eq-eqb _ _ c.if-plan-ne0.false, passed c.adds_up.ensures c.if-not-adds_up.false-raw) c.all_zero_after.ensures
