-- A plan's window, opened and closed.
use Rattle.std.specs.Prelude.{Some, None}
use Rattle.lists.proofs.Prelude.{Bool, true, false, not, cond, List, [], ◌∷◌, ◌++◌, ◌≡◌, refl, sym, ap, ◌∙◌, ℕ, suc, ◌+◌, ◌-◌, ◌/◌, ◌<◌, ◌≤◌, zero-le, arith, eqb, ltb, leb, length, eqb-true, ne_eqb, leb-false, le-ltb, by-test}
use Rattle.answers.specs.declared.Refusal.{Refusal}
use Rattle.answers.specs.declared.Stop.{Stop}
use Rattle.answers.specs.Answers.{refuse, leave, refuse_if, done, number}
use Rattle.answers.specs.Numbers.{refusal_number}
use Rattle.state.specs.Views.{listed_of}
use Rattle.state.proofs.Rows.{held}
use Rattle.admission.specs.Admission.{first_of}
use Rattle.admission.proofs.Laws.{barred}
use Rattle.forecasts.specs.declared.Sketch.{Sketch}
use Rattle.forecasts.specs.Plan.{Placed, opening, closing, event_calls}
use Rattle.forecasts.specs.Outlook.{Outlook, opened, closed, planned}
use Rattle.forecasts.specs.Sketches.{outlook, ahead, Followed, stretch, opened_sketch, closed_sketch, opened_by, closed_by, Opened, Counting, Early, Ready}
use Rattle.forecasts.proofs.Buffers.{buffer-opened, buffer-closed}
use Rattle.forecasts.proofs.Following.{follow-refused, follow-done}

-- no flush is counted where level 0 stays as it is
low-stays : (low flushes : ℕ) → flushes ≡ cond (ltb low low) (suc flushes) flushes
low-stays low flushes = rw (le-ltb low low (omega arith))

module _ (card : ℕ) (register : List ℕ) (used : ℕ) (plan places : List ℕ) (q : Sketch) (from to window : ℕ) (x : Ready register used plan places q from to) where
  -- the number that the open is refused with, 0 for none
  abbrev pub open_number : ℕ
  open_number = first_of (5 ∷ 6 ∷ []) (not (eqb q.windows.current 0) ∷ leb 65535 q.windows.last ∷ [])

  abbrev o : Outlook
  o = outlook register plan places q

  -- the open is refused
  pub open-refused : (why : Refusal) → refusal_number why ≡ open_number → Followed card register plan places q (opened_by window (stretch plan from to)) (Some (record { window = window; event = 0; why = why })) q places (λ cs. cs)
  open-refused why e = record { told = λ cs. follow-refused card register plan places q _ _ (refusal_number why) refused; sound = x.sound }
    where
      refused : planned card (length register / 65) o opening ≡ refuse (refusal_number why)
      refused = unfold planned outlook in barred [] [] (leave (number (suc q.windows.last)) (opened (outlook register plan places q))) (5 ∷ 6 ∷ []) (not (eqb q.windows.current 0) ∷ leb 65535 q.windows.last ∷ []) why e

  module _ (free : 0 ≡ open_number) where
    none : (a b : Bool) → 0 ≡ first_of (5 ∷ 6 ∷ []) (a ∷ b ∷ []) → (a ≡ false) × (b ≡ false)
    none false false e = (refl, refl)
    none false true e = absurd (omega arith)
    none true b e = absurd (omega arith)

    tests : (not (eqb q.windows.current 0) ≡ false) × (leb 65535 q.windows.last ≡ false)
    tests = none (not (eqb q.windows.current 0)) (leb 65535 q.windows.last) free

    -- there is a number left
    pub open-room : q.windows.last < 65535
    open-room = leb-false 65535 q.windows.last tests.1

    -- the window is opened
    pub window-opened : Opened register used plan places (opened_sketch q) from to
    window-opened = record {
      lent = x.lent;
      sound = record {
        buffer = buffer-opened q.windows q.buffer x.sound.buffer q.windows.live;
        given = omega arith;
        events = zero-le;
        listed_few = x.sound.listed_few;
        listed_form = x.sound.listed_form;
        known = x.sound.known;
        room = x.sound.room;
        in_plan = x.sound.in_plan;
        low = x.sound.low;
        flushes = x.sound.flushes;
        blocks = x.sound.blocks;
      };
      run = x.run;
      inside = x.inside;
      current = refl;
      some = omega arith;
      most = omega (arith, open-room);
      events = refl;
      early = omega (arith, x.early);
    }

    -- and the plan goes on with its events
    on : (cs : List Placed) → ahead card register plan places q (opened_by window (stretch plan from to) cs) ≡ ahead card register plan places (opened_sketch q) (event_calls window 1 (stretch plan from to) ++ cs)
    on cs = follow-done card register plan places q _ _ (number (suc q.windows.last)) places (opened_sketch q) is (low-stays q.low q.flushes)
      where
        is : planned card (length register / 65) o opening ≡ leave (number (suc q.windows.last)) (outlook register plan places (opened_sketch q))
        is = unfold planned outlook opened refuse_if in rw (tests.0, tests.1)

    module _ (r : Sketch) (places' : List ℕ) where
      -- an event is refused
      pub window-stopped : (st : Stop)
          → Followed card register plan places (opened_sketch q) (λ cs. event_calls window 1 (stretch plan from to) ++ cs) (Some st) r places' (closed_by window (to - from + 1))
          → Followed card register plan places q (opened_by window (stretch plan from to)) (Some st) r places' (λ cs. cs)
      window-stopped st f = record { told = λ cs. on cs ∙ f.told cs; sound = f.sound }

      -- or none is
      module _ (f : Followed card register plan places (opened_sketch q) (λ cs. event_calls window 1 (stretch plan from to) ++ cs) None r places' (closed_by window (to - from + 1)))
          (c : Counting (opened_sketch q) r from to) where
        number_is : r.windows.current ≡ r.windows.last
        number_is = c.current ∙ sym c.last

        pub close-room : 1 ≤ r.windows.last
        close-room = omega (arith, c.last)

        pub window-closed : Followed card register plan places q (opened_by window (stretch plan from to)) None (closed_sketch r) places' (λ cs. cs)
        window-closed = record {
          told = λ cs. on cs ∙ f.told cs ∙ follow-done card register plan places' r _ cs done places' (closed_sketch r) is (low-stays r.low r.flushes);
          sound = record {
            buffer = buffer-closed r.windows r.buffer f.sound.buffer r.windows.live number_is;
            given = zero-le;
            events = zero-le;
            listed_few = zero-le;
            listed_form = λ _. ap listed_of (sym (held 64 0 []));
            known = f.sound.known;
            room = f.sound.room;
            in_plan = f.sound.in_plan;
            low = f.sound.low;
            flushes = f.sound.flushes;
            blocks = f.sound.blocks;
          };
        }
          where
            open-yet : eqb r.windows.current 0 ≡ false
            open-yet = ne_eqb r.windows.current 0 (λ z. omega (arith, c.current, z))

            is : planned card (length register / 65) (outlook register plan places' r) closing ≡ leave done (outlook register plan places' (closed_sketch r))
            is = unfold planned outlook closed refuse_if in rw open-yet

        -- all counted up to here has room in the numbers given: a window without events has counted nothing
        pub window-early : Early (closed_sketch r) to
        window-early =
            by-test (eqb r.windows.events 0)
            (λ y. rw y (omega (arith, eqb-true r.windows.events 0 y, c.events, c.last, x.early)))
            (λ n. rw n (omega (arith, f.sound.events, c.events, c.last, x.early)))
