-- The events of a plan's window, one after another.
use Rattle.std.specs.Prelude.{Some, None, Err}
use Rattle.lists.proofs.Prelude.{List, ◌∷◌, ◌++◌, ◌≡◌, refl, sym, ap, ap₂, ◌∙◌, subst, ℕ, suc, ◌+◌, ◌-◌, ◌*◌, ◌/◌, ◌<◌, ◌≤◌, arith, length}
use Rattle.answers.specs.Answers.{halted}
use Rattle.answers.specs.declared.Refusal.{Refusal}
use Rattle.answers.specs.Numbers.{refusal_number}
use Rattle.identifiers.specs.Register.{entries}
use Rattle.forecasts.specs.declared.Sketch.{Sketch}
use Rattle.forecasts.specs.Plan.{Placed, counting, event_calls}
use Rattle.forecasts.specs.Course.{told}
use Rattle.forecasts.specs.Outlook.{outlook_gauge, planned}
use Rattle.forecasts.specs.Sketches.{identifier_at, outlook, Sound, event_at, Done, Made, ahead, Followed, stretch, closed_by, Opened, Counting}
use Rattle.forecasts.proofs.Following.{stretch-on, stretch-none, follow-refused, follow-done}

module _ (card : ℕ) (register : List ℕ) (used : ℕ) (plan places₀ : List ℕ) (q : Sketch) (from to window : ℕ) where
  -- the calls of the events from a place on, and what comes after the window's close
  abbrev pub calls_from : ℕ → List Placed → List Placed
  calls_from at cs = event_calls window (at - from + 1) (stretch plan at to) ++ cs

  -- before the event at a place, all events before it being done
  pub record Along (places : List ℕ) (t : Sketch) (at : ℕ) : Type 0 where
    pub low : from ≤ at
    pub high : at ≤ to
    pub sound : Sound register plan places t
    pub last : t.windows.last ≡ q.windows.last
    pub current : t.windows.current ≡ q.windows.current
    pub events : from + t.windows.events ≡ at
    pub long : length places ≡ length places₀
    pub told : (cs : List Placed) → ahead card register plan places₀ q (event_calls window 1 (stretch plan from to) ++ cs) ≡ ahead card register plan places t (calls_from at cs)

  pub along-begin : Opened register used plan places₀ q from to → Along places₀ q from
  along-begin x = record {
    low = omega arith;
    high = x.run;
    sound = x.sound;
    last = refl;
    current = refl;
    events = omega (arith, x.events);
    long = refl;
    told = λ cs. let one : from - from + 1 ≡ 1 = omega arith in rw one;
  }

  module _ (places : List ℕ) (t : Sketch) (at : ℕ) (x : Along places t at) where
    -- a place has room in 32 bits: no window counts more than 32,767 events
    pub place-fits : from + 32767 ≤ 32767 * q.windows.last → q.windows.last ≤ 65535 → at < 4294967296
    place-fits early most = omega (arith, early, most, x.events, x.sound.events)

    module _ (h : at < to) (inside : to ≤ length (entries plan)) where
      -- the calls from here on begin with this event
      one_on : (cs : List Placed) → calls_from at cs ≡ record { window = window; event = at - from + 1; call = counting (identifier_at plan at) } ∷ calls_from (at + 1) cs
      one_on cs =
          let e : at + 1 - from + 1 ≡ suc (at - from + 1) = omega (arith, x.low) in
          rw (stretch-on plan at to h inside, e)

      -- the event is refused
      pub along-refused : (why : Refusal) (r : Sketch) (places' : List ℕ) → Made card register plan places t (event_at card register plan places t at) (Err why) r places'
          → Followed card register plan places₀ q (λ cs. event_calls window 1 (stretch plan from to) ++ cs) (Some (record { window = window; event = at - from + 1; why = why })) r places' (closed_by window (to - from + 1))
      along-refused why r places' m = record {
        told = λ cs. x.told cs ∙ ap (ahead card register plan places t) (one_on cs) ∙ follow-refused card register plan places t _ (calls_from (at + 1) cs) (refusal_number why) m.0
            ∙ sym (ap₂ (λ (s : Sketch) (P : List ℕ). told outlook_gauge (planned card (length register / 65)) s.flushes (outlook register plan P s) (halted window (at - from + 1) (refusal_number why))) m.1 m.2);
        sound = subst (λ (P : List ℕ). Sound register plan P r) (sym m.2) (subst (Sound register plan places) (sym m.1) x.sound);
      }

      -- or it is done
      pub along-done : (places' : List ℕ) (r : Sketch) → length places' ≡ length places → Done card register plan places t (event_at card register plan places t at) r places' → Along places' r (at + 1)
      along-done places' r same d = record {
        low = omega (arith, x.low);
        high = omega arith;
        sound = d.sound;
        last = d.last ∙ x.last;
        current = d.current ∙ x.current;
        events = omega (arith, d.events, x.events);
        long = same ∙ x.long;
        told = λ cs. x.told cs ∙ ap (ahead card register plan places t) (one_on cs) ∙ follow-done card register plan places t _ (calls_from (at + 1) cs) _ places' r d.is d.flushes;
      }

    -- no event is left
    module _ (h : to ≤ at) where
      pub along-left : Counting q t from to
      along-left = record { last = x.last; current = x.current; events = omega (arith, x.events, x.high) }

      pub along-end : Followed card register plan places₀ q (λ cs. event_calls window 1 (stretch plan from to) ++ cs) None t places (closed_by window (to - from + 1))
      along-end = record {
        told = λ cs. let e : at ≡ to = omega (arith, x.high) in x.told cs ∙ ap (ahead card register plan places t) (rw (stretch-none plan at to h, e));
        sound = x.sound;
      }
