-- `forecasts::closed` meets its contract.
use Rattle.lists.proofs.Prelude.{cond, ⊎_elim, ◌≡◌, ◌-◌, eqb, eq-eqb, ne_eqb}
use Rattle.forecasts.proofs.closed.Goals as goal

pub returns : goal.returns
returns c =
    let w = c.args.q.windows in
    let last : c.if-q-eq0.last ≡ cond (eqb w.events 0) (w.last - 1) w.last =
    ⊎_elim (λ h. rw (eq-eqb w.events 0 h.if-q-eq0.true) h.last-is) (λ h. rw (ne_eqb w.events 0 h.if-q-eq0.false) h.last-is) c.if-q-eq0.branch-raw in
    rw (last, c.new.ensures)
