-- `forecasts::counting::count` meets its contract: its verdict refuses it, or what follows decides.
use Rattle.lists.proofs.Prelude.{refl, sym, subst, arith}
use Rattle.answers.specs.Answers.{Outcome}
use Rattle.forecasts.specs.Outlook.{Outlook}
use Rattle.forecasts.specs.Sketches.{Made}
use Rattle.forecasts.proofs.Judging.{judged-refused, judged-on}
use Rattle.forecasts.proofs.counting.count.Goals as goal

pub judge-verdict-requires : goal.judge-verdict-requires
judge-verdict-requires c =
    let p = c.requires in
    (omega (arith, p.0.known, p.0.room), p.0.in_plan, p.1, p.0.listed_few)

pub enter-requires : goal.enter-requires
enter-requires c =
    let w = rw c.in-Ok.is at c.judge-verdict.ensures in
    record { lent = c.args.g.now.lent; sound = c.requires.0; inside = c.requires.1; fits = c.requires.2; free = w.0; number = w.1 }

pub returns-in-Err : goal.returns-in-Err
returns-in-Err c =
    let a = c.args in
    rw c.refused.ensures
    (judged-refused a.g.now.register.now a.g.now.plan.now a.places.now a.q c.requires.0 a.g.now.card a.at _ (rw c.in-Err.is at c.judge-verdict.ensures), refl, refl)

pub returns-in-Ok : goal.returns-in-Ok
returns-in-Ok c =
    let a = c.args in
    let w = rw c.in-Ok.is at c.judge-verdict.ensures in
    subst (λ (o : Outcome Outlook). Made a.g.now.card a.g.now.register.now a.g.now.plan.now a.places.now a.q o c.enter.result.answer c.enter.result.sketch c.enter.new.places)
    (sym (judged-on a.g.now.register.now a.g.now.plan.now a.places.now a.q c.requires.0 a.g.now.card a.at w.0)) c.enter.ensures
