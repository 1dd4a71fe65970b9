-- `forecasts::counting::judge` meets its contract: refused for its length, or judged by its number.
use Rattle.lists.proofs.Prelude.{[], ◌∷◌, ap, sym, ◌∙◌, subst, ℕ, ◌/◌, arith, length}
use Rattle.identifiers.specs.Names.{bad_length, number_of}
use Rattle.events.specs.Verdicts.{number_tests, Weighed}
use Rattle.events.proofs.Weighed.{weighed-on}
use Rattle.forecasts.specs.Sketches.{identifier_at, names_with}
use Rattle.forecasts.proofs.counting.judge.Goals as goal

pub returns-then-is_bad : goal.returns-then-is_bad
returns-then-is_bad c = rw (sym c.is_bad.ensures ∙ c.if-is_bad.true)

pub identifier_at-id-requires : goal.identifier_at-id-requires
identifier_at-id-requires c = (c.requires.2, sym c.is_bad.ensures ∙ c.if-is_bad.false)

pub find-i-requires : goal.find-i-requires
find-i-requires c = let p = c.requires in (p.0, p.1)

pub judge_number-requires : goal.judge_number-requires
judge_number-requires c = let p = c.requires in (p.3, omega (arith, c.args.g.now.lent.size))

pub returns : goal.returns
returns c =
    let a = c.args in
    let ms = names_with a.g.now.register.now a.g.now.plan.now a.places.now a.known in
    let n = identifier_at a.g.now.plan.now a.at in
    weighed-on 4 (bad_length n) (5 ∷ 6 ∷ 8 ∷ 9 ∷ []) (number_tests a.w a.l (length a.g.now.register.now / 65) (number_of ms n)) (number_of ms n) c.judge_number.result (sym c.is_bad.ensures ∙ c.if-is_bad.false)
    (subst (λ (i : ℕ). Weighed (5 ∷ 6 ∷ 8 ∷ 9 ∷ []) (number_tests a.w a.l (length a.g.now.register.now / 65) i) i c.judge_number.result)
    (c.find-i.ensures ∙ ap (number_of ms) c.identifier_at-id.ensures) c.judge_number.ensures)
