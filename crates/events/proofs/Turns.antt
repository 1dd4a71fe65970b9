-- What an event comes to, by what is judged first and by its turn.
use Rattle.std.specs.Prelude.{Result, Ok, Err}
use Rattle.lists.proofs.Prelude.{ℕ, Bool, true, false, not, List, [], ◌∷◌, ◌≡◌, refl, ap, ◌∙◌, arith, eqb, leb, not-false, Bool·not-not}
use Rattle.answers.specs.declared.Refusal.{Refusal}
use Rattle.answers.specs.Answers.{Outcome, leave, done}
use Rattle.answers.specs.Numbers.{refusal_number}
use Rattle.answers.specs.Order as order
use Rattle.answers.specs.Order.{past}
use Rattle.state.specs.Rules.{state_rule}
use Rattle.state.specs.Probe.{Probe}
use Rattle.identifiers.specs.Names.{Name, bad_length}
use Rattle.admission.specs.Admission.{first_of, probe_tests}
use Rattle.admission.proofs.Laws.{barred, granted, probe-sound, register-size}
use Rattle.flushes.specs.Flush.{flushing_if}
use Rattle.windows.specs.Calls.{is_open}
use Rattle.events.specs.Event.{number_for, event_flushes, counted, register_full, window_full, registered, event_of}
use Rattle.events.specs.Verdicts.{Judged, turn_tests, Turned}
use Rattle.events.proofs.Counts.{placed}

-- the first of five tests, where none of them holds
pub five : (a b c d e : Bool) → 0 ≡ first_of (4 ∷ 5 ∷ 6 ∷ 8 ∷ 9 ∷ []) (a ∷ b ∷ c ∷ d ∷ e ∷ []) → (a ≡ false) × (b ≡ false) × (c ≡ false) × (d ≡ false) × (e ≡ false)
five false false false false false h = (refl, refl, refl, refl, refl)
five false false false false true h = absurd (omega arith)
five false false false true e h = absurd (omega arith)
five false false true d e h = absurd (omega arith)
five false true c d e h = absurd (omega arith)
five true b c d e h = absurd (omega arith)

module _ (p : Probe) (n : Name) where
  -- refusals 1 to 3, and refusals 4 to 9, as the event's definition has them
  abbrev earlier : List Bool
  earlier = probe_tests (state_rule p.state) p.state.lengths p.card p.register

  abbrev later : List Bool
  later = bad_length n ∷ not (is_open p.state) ∷ leb 32767 p.state.windows.events ∷ register_full p n ∷ window_full p n ∷ []

  -- an event's flush and its count
  abbrev after : Outcome Probe
  after =
      flushing_if (event_flushes p.state (number_for p n)) p.state p.card
      (λ s card. leave done (record { state = counted s (number_for p n); card = card; register = registered p.register n }))

  -- refused by what is judged first
  pub event-first : (why : Refusal) → refusal_number why ≡ first_of (1 ∷ 2 ∷ 3 ∷ []) earlier → Judged p n (Err why)
  unfolding event_of
  event-first why e = barred (past 3 order.event) later after (1 ∷ 2 ∷ 3 ∷ []) earlier why e

  module _ (told : 0 ≡ first_of (1 ∷ 2 ∷ 3 ∷ []) earlier) where
    same_tests : turn_tests p.state.windows p.state.listed p.register n ≡ later
    same_tests =
        let k = probe-sound (state_rule p.state) p.state.lengths p.card p.register told in
        rw (placed p.state p.register n k.formed (register-size p.state.lengths p.card p.register k.lengths), Bool·not-not (eqb p.state.windows.current 0))

    -- judged by its turn
    pub event-judged : (v : Result ℕ Refusal) → Turned p.state.windows p.state.listed p.register n v → Judged p n v
    unfolding event_of
    event-judged (Err why) e =
        granted (past 3 order.event) later after (1 ∷ 2 ∷ 3 ∷ []) earlier refl refl told
        ∙ barred [] [] after (past 3 order.event) later why (e ∙ ap (first_of (past 3 order.event)) same_tests)
    event-judged (Ok i) e =
        let k = probe-sound (state_rule p.state) p.state.lengths p.card p.register told in
        let h = five (bad_length n) (not (is_open p.state)) (leb 32767 p.state.windows.events) (register_full p n) (window_full p n) (e.0 ∙ ap (first_of (past 3 order.event)) same_tests) in
        record {
          rule = k.rule;
          lengths = k.lengths;
          formed = k.formed;
          good = h.0;
          current = not-false (is_open p.state) h.1;
          events = h.2;
          place = h.3;
          room = h.4;
          number = e.1;
        }
