-- What an event of a plan comes to, by its verdict.
use Rattle.lists.proofs.Prelude.{List, [], ◌∷◌, map, ◌≡◌, refl, sym, ap, ◌∙◌, ℕ, ◌+◌, ◌/◌, arith, eqb, length, take, length-append, length-map, length-take-le, Bool·not-not}
use Rattle.answers.specs.declared.Refusal.{Refusal}
use Rattle.answers.specs.Answers.{Outcome, refuse, leave, done}
use Rattle.answers.specs.Numbers.{refusal_number}
use Rattle.identifiers.specs.Names.{Name, number_of}
use Rattle.identifiers.specs.Register.{names}
use Rattle.identifiers.proofs.Names.{number-within, number-full}
use Rattle.admission.specs.Admission.{first_of}
use Rattle.admission.proofs.Laws.{barred, granted}
use Rattle.events.specs.Verdicts.{tests_among}
use Rattle.forecasts.specs.declared.Sketch.{Sketch}
use Rattle.forecasts.specs.Outlook.{Outlook, counted, overflows, flushing_if, event_tests, planned}
use Rattle.forecasts.specs.Sketches.{identifier_at, names_with, outlook, Sound, event_at}

module _ (register plan places : List ℕ) (q : Sketch) (sound : Sound register plan places q) where
  abbrev ms : List Name
  ms = names_with register plan places q.known

  -- how many identifiers there are: those of the register, and the plan's new ones
  pub names-count : length ms ≡ length (names register) + q.known
  names-count =
      omega (
        arith,
        length-append (names register) (map (identifier_at plan) (take q.known places)),
        length-map (take q.known places) (identifier_at plan),
        length-take-le q.known places (omega (arith, sound.known, sound.room)),
      )

  module _ (card at : ℕ) where
    abbrev n : Name
    n = identifier_at plan at

    abbrev room : ℕ
    room = length register / 65

    abbrev o : Outlook
    o = outlook register plan places q

    -- past refusals 4 to 9
    abbrev on : Outcome Outlook
    on = flushing_if card room (overflows n o) o (λ p. leave done (counted n p))

    -- the code's tests are those of the outlook
    tests_same : event_tests card room o n ≡ tests_among q.windows q.listed room ms n
    unfolding outlook
    tests_same =
        rw (Bool·not-not (eqb q.windows.current 0), number-full (number_of ms n) (length ms) room (number-within ms n) (omega (arith, names-count, sound.known)))

    -- refused by its verdict
    pub judged-refused : (why : Refusal) → refusal_number why ≡ first_of (4 ∷ 5 ∷ 6 ∷ 8 ∷ 9 ∷ []) (tests_among q.windows q.listed room ms n)
        → event_at card register plan places q at ≡ refuse (refusal_number why)
    unfolding planned
    judged-refused why e = barred [] [] on (4 ∷ 5 ∷ 6 ∷ 8 ∷ 9 ∷ []) (event_tests card room o n) why (e ∙ ap (first_of (4 ∷ 5 ∷ 6 ∷ 8 ∷ 9 ∷ [])) (sym tests_same))

    -- or what follows decides
    pub judged-on : 0 ≡ first_of (4 ∷ 5 ∷ 6 ∷ 8 ∷ 9 ∷ []) (tests_among q.windows q.listed room ms n) → event_at card register plan places q at ≡ on
    unfolding planned
    judged-on e = granted [] [] on (4 ∷ 5 ∷ 6 ∷ 8 ∷ 9 ∷ []) (event_tests card room o n) refl refl (e ∙ ap (first_of (4 ∷ 5 ∷ 6 ∷ 8 ∷ 9 ∷ [])) (sym tests_same))
