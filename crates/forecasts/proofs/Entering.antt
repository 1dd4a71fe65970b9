-- What an event of a plan comes to, past refusals 4 to 9.
use Rattle.lists.proofs.Prelude.{Bool, true, false, ◌&&◌, not, cond, List, [], ◌∷◌, ◌++◌, map, map-append, append_assoc, ◌≡◌, refl, sym, ap, ap₂, ◌∙◌, subst, ℕ, suc, ◌+◌, ◌*◌, ◌/◌, ◌<◌, ◌≤◌, arith, eqb, ltb, leb, length, take, set, length-append, length-set, length-take, take-suc-set, leb-true, leb-false, ltb-false, eqb-false, le-ltb, lt-ltb, any, elem, by-test, and_both, every_append}
use Rattle.postings.specs.Order.{same_pair}
use Rattle.postings.specs.Merge.{put}
use Rattle.answers.specs.declared.Refusal.{Refusal}
use Rattle.answers.specs.Answers.{Outcome, refuse, leave, done, choose}
use Rattle.answers.specs.Numbers.{refusal_number}
use Rattle.answers.proofs.Refusals.{number-within}
use Rattle.state.specs.declared.Buffer.{Buffer}
use Rattle.state.specs.Views.{listed, buffered, listed_of, buffer_of, no_posting}
use Rattle.state.specs.Rules.{buffer_rule}
use Rattle.state.proofs.Rows.{held}
use Rattle.state.proofs.Kept.{buffer-kept}
use Rattle.state.proofs.Forms.{buffer-rule}
use Rattle.buffer.specs.Places.{pair}
use Rattle.identifiers.specs.Names.{Name, bad_length, number_of}
use Rattle.identifiers.specs.Register.{names}
use Rattle.admission.specs.Admission.{first_of}
use Rattle.admission.proofs.Laws.{barred, granted}
use Rattle.events.proofs.Turns.{five}
use Rattle.forecasts.specs.declared.Sketch.{Sketch}
use Rattle.forecasts.specs.Outlook.{Outlook, counted, overflows, flushed, flush_tests, flushing_if}
use Rattle.forecasts.specs.Sketches.{identifier_at, is_place, names_with, outlook, Sound, flushed_sketch, counted_sketch, Enterable, Done}
use Rattle.forecasts.proofs.Buffers.{buffer-counted}
use Rattle.forecasts.proofs.Judging.{names-count}

-- ---- the flush

module _ (card entries : ℕ) (o : Outlook) (k : Outlook → Outcome Outlook) where
  -- refusals of the flush, where one is wanted
  abbrev wanted_tests : Bool → List Bool
  wanted_tests t = (t && leb 16 o.low) ∷ (t && ltb card (2 * suc o.blocks)) ∷ []

  -- the flush is refused
  pub flush-barred : (t : Bool) (why : Refusal) → refusal_number why ≡ first_of (10 ∷ 11 ∷ []) (wanted_tests t) → flushing_if card entries t o k ≡ refuse (refusal_number why)
  unfolding flushing_if choose
  flush-barred true why e = barred [] [] (k (flushed o)) (10 ∷ 11 ∷ []) (flush_tests card entries o) why e
  flush-barred false why e = absurd (omega (arith, (number-within why).0))

  -- or it is made, where one is wanted
  pub flush-granted : (t : Bool) → 0 ≡ first_of (10 ∷ 11 ∷ []) (wanted_tests t) → flushing_if card entries t o k ≡ k (cond t (flushed o) o)
  unfolding flushing_if choose
  flush-granted true e = granted [] [] (k (flushed o)) (10 ∷ 11 ∷ []) (flush_tests card entries o) refl refl e
  flush-granted false e = refl

-- level 0 and the card have room for it then
pub flush-room : (t : Bool) (card low blocks : ℕ) → 0 ≡ first_of (10 ∷ 11 ∷ []) ((t && leb 16 low) ∷ (t && ltb card (2 * suc blocks)) ∷ []) → t ≡ true → (low < 16) × (2 * suc blocks ≤ card)
flush-room t card low blocks e y = two (leb 16 low) (ltb card (2 * suc blocks)) refl refl (rw y at e)
  where
    two : (a b : Bool) → leb 16 low ≡ a → ltb card (2 * suc blocks) ≡ b → 0 ≡ first_of (10 ∷ 11 ∷ []) (a ∷ b ∷ []) → (low < 16) × (2 * suc blocks ≤ card)
    two false false p r h = (leb-false 16 low p, ltb-false card (2 * suc blocks) r)
    two false true p r h = absurd (omega arith)
    two true b p r h = absurd (omega arith)

-- ---- the places of new identifiers

-- how many places are kept, and which, after an event of the identifier with number i, where there are m
abbrev pub known_after : ℕ → ℕ → ℕ → ℕ
known_after m i k = cond (leb m i) (suc k) k

abbrev pub places_after : ℕ → ℕ → ℕ → ℕ → List ℕ → List ℕ
places_after m i k at places = cond (leb m i) (set places k at) places

module _ (register : List ℕ) (used : ℕ) (plan places : List ℕ) (q : Sketch) (at i : ℕ) (x : Enterable register used plan places q at i) where
  abbrev n : Name
  n = identifier_at plan at

  abbrev ms : List Name
  ms = names_with register plan places q.known

  -- what the tests that do not hold say
  tests : (bad_length n ≡ false) × (eqb q.windows.current 0 ≡ false) × (leb 32767 q.windows.events ≡ false) × (leb (length register / 65) (number_of ms n) ≡ false)
      × ((not (elem (number_of ms n) (listed q.listed)) && leb 64 (length (listed q.listed))) ≡ false)
  tests = five (bad_length n) (eqb q.windows.current 0) (leb 32767 q.windows.events) (leb (length register / 65) (number_of ms n)) _ x.free

  pub some : 1 ≤ q.windows.current
  some = let d = eqb-false q.windows.current 0 tests.1 in omega arith

  pub left : q.windows.events < 32767
  left = leb-false 32767 q.windows.events tests.2

  pub placed : i < length register / 65
  placed = omega (arith, x.number, leb-false (length register / 65) (number_of ms n) tests.3)

  pub small : i ≤ 1023
  small = omega (arith, placed, x.lent.size)

  -- there is room for an identifier new to the window
  pub listed-room : elem i (listed q.listed) ≡ false → length (listed q.listed) < 64
  listed-room f = leb-false 64 _ (none (elem (number_of ms n) (listed q.listed)) _ tests.4 (rw x.number at f))
    where
      none : (a b : Bool) → (not a && b) ≡ false → a ≡ false → b ≡ false
      none true b e y = cc
      none false b e y = e

  -- how many identifiers there are
  pub count-is : length ms ≡ length (names register) + q.known
  count-is = names-count register plan places q x.sound

  -- a new one has the number after theirs, and its place finds room
  pub new-room : leb (length ms) i ≡ true → q.known < length places
  new-room y = omega (arith, leb-true (length ms) i y, count-is, placed, x.sound.room)

  -- the identifiers with it
  names-after : names_with register plan (places_after (length ms) i q.known at places) (known_after (length ms) i q.known) ≡ cond (leb (length ms) i) (ms ++ (n ∷ [])) ms
  names-after =
      by-test (leb (length ms) i)
      (λ y. rw y
      (ap (λ l. names register ++ map (identifier_at plan) l) (take-suc-set places q.known at (new-room y))
      ∙ ap (λ l. names register ++ l) (map-append (identifier_at plan) (take q.known places) (at ∷ []))
      ∙ sym (append_assoc (names register) (map (identifier_at plan) (take q.known places)) (n ∷ []))))
      (λ f. rw f)

  place_is : is_place plan at ≡ true
  place_is = and_both (ltb at _) _ (lt-ltb _ _ x.inside) (ap not tests.0)

  -- with the window's numbers and identifiers as they are, and a buffer and numbers as a flush leaves them, or as they were
  module _ (b : Buffer) (blocks low flushes : ℕ) where
    abbrev pub sketch_with : Sketch
    sketch_with = record { windows = q.windows; listed = q.listed; buffer = b; blocks = blocks; low = low; flushes = flushes; known = q.known }

    abbrev listed_after : List ℕ
    listed_after = cond (elem i (listed q.listed)) (listed q.listed) (listed q.listed ++ (i ∷ []))

    abbrev pub places' : List ℕ
    places' = places_after (length ms) i q.known at places

    abbrev pub counted' : Sketch
    counted' = counted_sketch sketch_with i (known_after (length ms) i q.known)

    -- the sketch with the event counted stands for the outlook with it counted
    pub counted_is : outlook register plan places' counted' ≡ counted n (outlook register plan places sketch_with)
    unfolding outlook counted
    counted_is = λ j. record {
      last = q.windows.last;
      current = q.windows.current;
      events = suc q.windows.events;
      names = (names-after ∙ ap (λ m. cond (leb (length ms) m) (ms ++ (n ∷ [])) ms) x.number) j;
      listed = (held 64 0 listed_after ∙ ap (λ m. cond (elem m (listed q.listed)) (listed q.listed) (listed q.listed ++ (m ∷ []))) x.number) j;
      buffer = (held 128 no_posting (put (pair i q.windows.current) (buffered b)) ∙ ap (λ m. put (pair m q.windows.current) (buffered b)) x.number) j;
      low = low;
      blocks = blocks;
    }

    -- and is sound
    pub sound-counted : buffer_rule q.windows b ≡ true → length (buffered b) ≤ 128 → (any (same_pair (pair i q.windows.current)) (buffered b) ≡ false → length (buffered b) < 128)
        → low ≤ 51 → flushes ≤ low → blocks ≤ 219043332045 → Sound register plan places' counted'
    sound-counted rule few room l f m = record {
      buffer = buffer-counted q.windows b rule i small some x.sound.given left room few;
      given = x.sound.given;
      events = omega (arith, left);
      listed_few = listed-few;
      listed_form = λ _. ap listed_of (sym (held 64 0 listed_after));
      known = by-test (leb (length ms) i)
          (λ y. rw y (omega (arith, leb-true (length ms) i y, count-is, placed)))
          (λ f. rw f x.sound.known);
      room = by-test (leb (length ms) i) (λ y. rw (y, length-set) x.sound.room) (λ f. rw f x.sound.room);
      in_plan = by-test (leb (length ms) i)
          (λ y. rw (y, take-suc-set places q.known at (new-room y))
          (every_append (is_place plan) (take q.known places) (at ∷ []) ∙ rw (x.sound.in_plan, place_is)))
          (λ f. rw f x.sound.in_plan);
      low = l;
      flushes = f;
      blocks = m;
    }
      where
        used-most : length (listed q.listed) ≤ 64
        used-most = omega (arith, length-take q.listed.used q.listed.ids, x.sound.listed_few)

        listed-few : length listed_after ≤ 64
        listed-few =
            by-test (elem i (listed q.listed))
            (λ y. rw y used-most)
            (λ f. rw f (omega (arith, length-append (listed q.listed) (i ∷ []), listed-room f)))

  -- ---- the whole event

  module _ (card : ℕ) (wanted : Bool) (full : wanted ≡ (eqb (length (buffered q.buffer)) 128 && not (any (same_pair (pair i q.windows.current)) (buffered q.buffer)))) where
    abbrev o : Outlook
    o = outlook register plan places q

    abbrev comes : Outcome Outlook
    comes = flushing_if card (length register / 65) (overflows n o) o (λ p. leave done (counted n p))

    abbrev pub flush_number : ℕ
    flush_number = first_of (10 ∷ 11 ∷ []) ((wanted && leb 16 q.low) ∷ (wanted && ltb card (2 * suc q.blocks)) ∷ [])

    -- a flush is wanted where the pair is new to a full buffer
    wanted-is : overflows n o ≡ wanted
    unfolding overflows outlook
    wanted-is = ap (λ m. eqb (length (buffered q.buffer)) 128 && not (any (same_pair (pair m q.windows.current)) (buffered q.buffer))) (sym x.number) ∙ sym full

    few : length (buffered q.buffer) ≤ 128
    few = omega (arith, length-take q.buffer.used q.buffer.postings, (buffer-kept q.windows q.buffer x.sound.buffer).used)

    -- where none is wanted, a new pair finds room
    plain : wanted ≡ false → any (same_pair (pair i q.windows.current)) (buffered q.buffer) ≡ false → length (buffered q.buffer) < 128
    plain y f =
        by-test (eqb (length (buffered q.buffer)) 128)
        (λ z. let r : true ≡ false = sym (rw (z, f) at full) ∙ y in let u : ◌≡◌ {A = ℕ} 0 1 = cc in absurd (omega arith))
        (λ m. let d = eqb-false (length (buffered q.buffer)) 128 m in omega (arith, few))

    -- after the flush or without one, the event can be counted
    pub countable : (r : Sketch) → r ≡ cond wanted (flushed_sketch q) q
        → (r.listed.used ≤ 64) × (length r.listed.ids ≡ 64 → r.listed ≡ listed_of (listed r.listed)) × (elem i (listed r.listed) ≡ false → length (listed r.listed) < 64)
        × (buffer_rule r.windows r.buffer ≡ true) × (r.windows.events < 32767)
        × (any (same_pair (pair i r.windows.current)) (buffered r.buffer) ≡ false → length (buffered r.buffer) < 128)
    countable r e = subst Able (sym e) (go wanted refl)
      where
        Able : Sketch → Type 0
        Able r =
            (r.listed.used ≤ 64) × (length r.listed.ids ≡ 64 → r.listed ≡ listed_of (listed r.listed)) × (elem i (listed r.listed) ≡ false → length (listed r.listed) < 64)
            × (buffer_rule r.windows r.buffer ≡ true) × (r.windows.events < 32767)
            × (any (same_pair (pair i r.windows.current)) (buffered r.buffer) ≡ false → length (buffered r.buffer) < 128)

        go : (t : Bool) → wanted ≡ t → Able (cond t (flushed_sketch q) q)
        go true y = (x.sound.listed_few, x.sound.listed_form, listed-room, buffer-rule q.windows [] (omega arith) refl refl, left, λ f. omega arith)
        go false y = (x.sound.listed_few, x.sound.listed_form, listed-room, x.sound.buffer, left, plain y)

    -- it is refused
    pub entered-refused : (why : Refusal) → refusal_number why ≡ flush_number → comes ≡ refuse (refusal_number why)
    unfolding outlook
    entered-refused why e = rw wanted-is (flush-barred card (length register / 65) o (λ p. leave done (counted n p)) wanted why e)

    -- or the event is counted, after the flush or without one
    entered : card < 4294967296 → 0 ≡ flush_number
        → Done card register plan places q comes (counted_sketch (cond wanted (flushed_sketch q) q) i (known_after (length ms) i q.known)) (places_after (length ms) i q.known at places)
    entered card_fits e = go wanted refl
      where
        flushed-is : flushed o ≡ outlook register plan places (flushed_sketch q)
        flushed-is = unfold outlook flushed in refl

        after : (t : Bool) → wanted ≡ t → comes ≡ leave done (counted n (cond t (flushed o) o))
        after t y = rw wanted-is (flush-granted card (length register / 65) o (λ p. leave done (counted n p)) wanted (unfold outlook in e)) ∙ ap (λ u. leave done (counted n (cond u (flushed o) o))) y

        go : (t : Bool) → wanted ≡ t
            → Done card register plan places q comes (counted_sketch (cond t (flushed_sketch q) q) i (known_after (length ms) i q.known)) (places_after (length ms) i q.known at places)
        go true y =
            let r = flush-room wanted card q.low q.blocks e y in
            record {
              is = after true y ∙ ap (λ p. leave done (counted n p)) flushed-is ∙ ap (leave done) (sym (counted_is (buffer_of []) (suc q.blocks) (suc q.low) (suc q.flushes)));
              sound = sound-counted (buffer_of []) (suc q.blocks) (suc q.low) (suc q.flushes) (buffer-rule q.windows [] (omega arith) refl refl) (omega arith) (λ f. omega arith)
                  (omega (arith, r.0)) (omega (arith, x.sound.flushes)) (omega (arith, r.1, card_fits));
              flushes = rw (lt-ltb q.low (suc q.low) (omega arith));
              events = refl;
              last = refl;
              current = refl;
            }
        go false y = record {
          is = after false y ∙ ap (leave done) (sym (counted_is q.buffer q.blocks q.low q.flushes));
          sound = sound-counted q.buffer q.blocks q.low q.flushes x.sound.buffer few (plain y) x.sound.low x.sound.flushes x.sound.blocks;
          flushes = rw (le-ltb q.low q.low (omega arith));
          events = refl;
          last = refl;
          current = refl;
        }

    -- the same of what the code finds for the flush, the count of identifiers, the places kept and the event
    pub entered-done : card < 4294967296 → 0 ≡ flush_number → (f r : Sketch) (m k : ℕ) (P : List ℕ) → f ≡ cond wanted (flushed_sketch q) q → m ≡ length ms
        → (k ≡ known_after m i q.known) × (P ≡ places_after m i q.known at places) → r ≡ counted_sketch f i k → Done card register plan places q comes r P
    entered-done card_fits e f r m k P is_flushed is_count noted is_counted =
        subst (λ s. Done card register plan places q comes s P)
        (sym (is_counted ∙ ap₂ (λ s j. counted_sketch s i j) is_flushed (noted.0 ∙ ap (λ c. known_after c i q.known) is_count)))
        (subst (Done card register plan places q comes (counted_sketch (cond wanted (flushed_sketch q) q) i (known_after (length ms) i q.known)))
        (sym (noted.1 ∙ ap (λ c. places_after c i q.known at places) is_count)) (entered card_fits e))
