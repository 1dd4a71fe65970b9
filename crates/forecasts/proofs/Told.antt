-- What a forecast tells, by what the code is left with.
use Rattle.std.specs.Prelude.{Option, Some, None}
use Rattle.lists.proofs.Prelude.{true, ◌&&◌, List, [], ◌∷◌, ◌≡◌, refl, sym, ap, ap₂, ◌∙◌, ℕ, ◌+◌, ◌/◌, ◌≤◌, arith, length, eqb-true, and_left, and_right}
use Rattle.answers.specs.declared.Refusal.{Refusal}
use Rattle.answers.specs.declared.Stop.{Stop}
use Rattle.answers.specs.Answers.{never, halted, Answer, forecast, refuse, leave}
use Rattle.answers.specs.Numbers.{refusal_number, halt_as}
use Rattle.state.specs.declared.State.{State}
use Rattle.state.specs.Views.{blocks, register_size}
use Rattle.state.specs.Rules.{state_rule}
use Rattle.state.specs.Probe.{has_length}
use Rattle.identifiers.specs.Register.{entries, names, register_rule}
use Rattle.identifiers.proofs.Entries.{length-entries, names-within, rule-formed}
use Rattle.recordings.specs.Recording.{listed_in_all, recording_rule, recorded}
use Rattle.recordings.proofs.Windows.{recording-kept}
use Rattle.admission.specs.Admission.{first_of}
use Rattle.admission.proofs.Laws.{barred, granted, all_three, register-most}
use Rattle.forecasts.specs.declared.Sketch.{Sketch}
use Rattle.forecasts.specs.Plan.{plan_calls}
use Rattle.forecasts.specs.Course.{follow}
use Rattle.forecasts.specs.Outlook.{outlook_of, outlook_gauge, planned, plan_tests, forecast_of}
use Rattle.forecasts.specs.Sketches.{outlook, Sound, Lent, Begun, onward, Followed}
use Rattle.forecasts.proofs.Judging.{names-count}
use Rattle.forecasts.proofs.Windows.{whole}

-- where the calls have ended
onward-end : (card : ℕ) (register plan places : List ℕ) (r : Sketch) → Sound register plan places r → (stop : Option Stop)
    → onward card register plan places r stop [] ≡ forecast r.flushes r.blocks (length (names register) + r.known) (halt_as stop)
unfolding follow outlook
onward-end card register plan places r s None = ap (λ m. forecast r.flushes r.blocks m never) (names-count register plan places r s)
onward-end card register plan places r s (Some t) = ap (λ m. forecast r.flushes r.blocks m (halted t.window t.event (refusal_number t.why))) (names-count register plan places r s)

module _ (s : State) (register plan counts : List ℕ) (rule : state_rule s ≡ true) (size : length register ≡ s.lengths.register) (formed : register_rule register ≡ true) where
  -- what the plan's calls come to, with the state's outlook
  abbrev pub course : Answer
  course = follow outlook_gauge (planned (blocks s) (register_size s)) 0 (outlook_of s register) (plan_calls (recorded plan counts))

  pub lent : (used : ℕ) → used ≡ length (names register) → Lent register used
  lent used e = record { rule = formed; size = omega (arith, register-most s rule); count = e }

  pub begun-sound : (q : Sketch) (places : List ℕ) → Begun s q → length places ≡ 1024 → Sound register plan places q
  begun-sound q places b long =
      b.sound register plan places (omega (arith, names-within register (rule-formed register formed), length-entries register)) (omega (arith, register-most s rule))

  pub adds-up : recording_rule plan counts ≡ true → listed_in_all counts ≡ length (entries plan)
  adds-up e = omega (arith, (recording-kept plan counts e).adds, length-entries plan)

  module _ (q r : Sketch) (places places' : List ℕ) (stop : Option Stop) (b : Begun s q)
      (f : Followed (blocks s) register plan places q (whole (blocks s) register 0 plan counts places q) stop r places' (λ cs. [])) where
    pub known-most : length (names register) + r.known ≤ 1024
    known-most = omega (arith, f.sound.known, register-most s rule)

    pub course-told : forecast r.flushes r.blocks (length (names register) + r.known) (halt_as stop) ≡ course
    course-told = sym (onward-end (blocks s) register plan places' r f.sound stop) ∙ sym (f.told []) ∙ begins
      where
        begins : follow outlook_gauge (planned (blocks s) (length register / 65)) q.flushes (outlook register plan places q) (plan_calls (recorded plan counts)) ≡ course
        begins =
            ap₂ (λ m k. follow outlook_gauge (planned (blocks s) (m / 65)) k (outlook register plan places q) (plan_calls (recorded plan counts))) size b.flushes
            ∙ ap (λ o. follow outlook_gauge (planned (blocks s) (register_size s)) 0 o (plan_calls (recorded plan counts))) (b.stands register plan places)

-- refused by what is judged first
pub forecast-barred : (s : State) (register plan counts : List ℕ) (why : Refusal) → refusal_number why ≡ first_of (1 ∷ 2 ∷ 3 ∷ []) (plan_tests (state_rule s) s.lengths register plan counts)
    → forecast_of s register plan counts ≡ refuse (refusal_number why)
unfolding forecast_of
forecast-barred s register plan counts why e = barred [] [] (leave _ tt) (1 ∷ 2 ∷ 3 ∷ []) (plan_tests (state_rule s) s.lengths register plan counts) why e

-- or the plan is followed
pub forecast-granted : (s : State) (register plan counts : List ℕ) → 0 ≡ first_of (1 ∷ 2 ∷ 3 ∷ []) (plan_tests (state_rule s) s.lengths register plan counts)
    → forecast_of s register plan counts ≡ leave (follow outlook_gauge (planned (blocks s) (register_size s)) 0 (outlook_of s register) (plan_calls (recorded plan counts))) tt
unfolding forecast_of
forecast-granted s register plan counts e = granted [] [] (leave _ tt) (1 ∷ 2 ∷ 3 ∷ []) (plan_tests (state_rule s) s.lengths register plan counts) refl refl e

-- what a forecast that goes on may rely on
pub record PlanSound (s : State) (register entries counts : List ℕ) : Type 0 where
  pub rule : state_rule s ≡ true
  pub size : length register ≡ s.lengths.register
  pub formed : register_rule register ≡ true
  pub plan : recording_rule entries counts ≡ true

pub plan-sound : (s : State) (register plan counts : List ℕ) → 0 ≡ first_of (1 ∷ 2 ∷ 3 ∷ []) (plan_tests (state_rule s) s.lengths register plan counts) → PlanSound s register plan counts
plan-sound s register plan counts e =
    let h = all_three (state_rule s) (has_length register s.lengths.register) (register_rule register && recording_rule plan counts) e in
    record {
      rule = h.0;
      size = eqb-true _ _ h.1;
      formed = and_left (register_rule register) _ h.2;
      plan = and_right (register_rule register) _ h.2;
    }
