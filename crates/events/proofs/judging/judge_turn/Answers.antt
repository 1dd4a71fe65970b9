-- `events::judging::judge_turn` meets its contract: refused for its length, or judged by its number.
use Rattle.lists.proofs.Prelude.{[], ◌∷◌, sym, ◌∙◌, subst, ℕ, ◌/◌, length}
use Rattle.identifiers.specs.Names.{bad_length, number_of}
use Rattle.identifiers.specs.Register.{names}
use Rattle.events.specs.Verdicts.{number_tests, Weighed}
use Rattle.events.proofs.Weighed.{weighed-on}
use Rattle.events.proofs.judging.judge_turn.Goals as goal

pub returns-then-bad_length : goal.returns-then-bad_length
returns-then-bad_length c = rw (sym c.bad_length.ensures ∙ c.if-bad_length.true)

pub returns : goal.returns
returns c =
    let a = c.args in
    weighed-on 4 (bad_length a.id.now) (5 ∷ 6 ∷ 8 ∷ 9 ∷ []) (number_tests a.w a.l (length a.register.now / 65) (number_of (names a.register.now) a.id.now)) (number_of (names a.register.now) a.id.now) c.judge_number.result (sym c.bad_length.ensures ∙ c.if-bad_length.false)
    (subst (λ (i : ℕ). Weighed (5 ∷ 6 ∷ 8 ∷ 9 ∷ []) (number_tests a.w a.l (length a.register.now / 65) i) i c.judge_number.result) c.find.ensures c.judge_number.ensures)
