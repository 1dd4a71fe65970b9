-- `queries::search` meets its contract: what is judged first refuses, or the rest decides.
use Rattle.lists.proofs.Prelude.{map, sym, ◌∙◌}
use Rattle.admission.proofs.Laws.{register-most, admitted}
use Rattle.queries.specs.Finds.{probe_of, answered}
use Rattle.queries.proofs.Outcomes.{refused_as, finds-barred}
use Rattle.queries.proofs.search.Goals as goal

pub judge_probe-requires : goal.judge_probe-requires
judge_probe-requires c = λ e. register-most c.args.s (sym c.state_ok.ensures ∙ e)

pub returns-in-Err : goal.returns-in-Err
returns-in-Err c =
    let a = c.args in
    let ns = map (λ x. x.now) a.ids.now in
    refused_as (answered (probe_of a.s a.card.now a.register.now) a.t ns a.places) a.places _ _ c.refuse.ensures
    (finds-barred a.s a.card.now a.register.now a.t ns a.places _ (rw (c.in-Err.is, c.state_ok.ensures) at c.judge_probe.ensures))

pub search_admitted-requires : goal.search_admitted-requires
search_admitted-requires c =
    let a = c.args in
    admitted a.s a.card.now a.register.now _ c.state_ok.ensures (rw c.in_default.is at c.judge_probe.ensures)
