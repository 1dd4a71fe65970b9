-- `jobs::step_beside` meets its contract: another record than the state's own is refused; with its own the step is that of state and card.
use Rattle.lists.proofs.Prelude.{sym, ◌∙◌, not-false}
use Rattle.windows.specs.Promises.{store_of}
use Rattle.windows.proofs.Outcomes.{stopped}
use Rattle.jobs.specs.Lent.{lent_step_of}
use Rattle.jobs.proofs.Lent.{gives-lent}
use Rattle.jobs.proofs.step_beside.Goals as goal

pub returns-then-ne : goal.returns-then-ne
unfolding lent_step_of
returns-then-ne c = rw c.refuse.ensures (stopped _ 1 _ (sym c.ne.ensures ∙ c.if-ne.true))

pub returns : goal.returns
returns c =
    let s = c.args in
    let same = not-false _ (sym c.ne.ensures ∙ c.if-ne.false) in
    let r = c.step-after in
    gives-lent (store_of s.s s.card.now) s.job (store_of r.result.state r.new.card) same r.ensures
