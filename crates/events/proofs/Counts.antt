-- What counting an event asks for, from its admission and its flush's target.
use Rattle.std.specs.Prelude.{Option, None, Result, Ok}
use Rattle.answers.specs.declared.Refusal.{Refusal}
use Rattle.lists.proofs.Prelude.{Bool, true, false, ◌&&◌, not, List, [], ◌≡◌, refl, sym, ap, subst, ◌∙◌, ℕ, ◌/◌, ◌<◌, ◌≤◌, arith, eqb, leb, length, length-take, leb-false, eqb-true, eqb-false, not-false, any, elem, empty, by-test, empty-length}
use Rattle.postings.specs.Order.{same_pair}
use Rattle.state.specs.declared.State.{State}
use Rattle.state.specs.Views.{register_size, listed, buffered}
use Rattle.state.specs.Probe.{Probe}
use Rattle.state.proofs.Kept.{rules-of, state-kept}
use Rattle.state.proofs.Forms.{buffer-rule}
use Rattle.identifiers.specs.Names.{Name, number_of}
use Rattle.identifiers.specs.Register.{names, register_rule}
use Rattle.identifiers.proofs.Names.{number-within, number-full}
use Rattle.identifiers.proofs.Entries.{names-within, length-entries, rule-formed}
use Rattle.flushes.specs.Flush.{flushed_to}
use Rattle.events.specs.Event.{is_new, once, event_flushes}
use Rattle.flushes.specs.Targets.{Aimed}
use Rattle.events.specs.Verdicts.{Admitted, Countable, Placed}
use Rattle.flushes.proofs.Targets.{not-wanted-only}
use Rattle.admission.proofs.Laws.{register-size}
use Rattle.events.proofs.Verdicts.{events-left}

-- ---- the identifier's place in the register

module _ (s : State) (register : List ℕ) (n : Name) (rule : register_rule register ≡ true) (size : length register ≡ s.lengths.register) where
  -- a new identifier meets a full register exactly when its number is no place of it
  pub placed : (is_new register n && leb (register_size s) (length (names register))) ≡ leb (length register / 65) (number_of (names register) n)
  placed =
      let c : register_size s ≡ length register / 65 = ap (λ (k : ℕ). k / 65) (sym size) in
      rw c
      (number-full (number_of (names register) n) (length (names register)) (length register / 65)
      (number-within (names register) n) (rw (length-entries register) at (names-within register (rule-formed register rule))))

-- ---- room in the buffer

-- a full buffer that has the pair, or one that is not full, needs no flush
room-plain : (len : ℕ) (there : Bool) → len ≤ 128 → (eqb len 128 && not there) ≡ false → there ≡ false → len < 128
room-plain len there h e f =
    by-test (eqb len 128)
    (λ y. let g : not there ≡ false = rw y at e in
    let z : true ≡ false = sym (not-false there g) ∙ f in
    let o : ◌≡◌ {A = ℕ} 0 1 = cc in
    absurd (omega arith))
    (λ n. let z = eqb-false len 128 n in omega arith)

-- a target judged with the test as the code makes it
pub judged : (s : State) (i : ℕ) (card : List ℕ) (wanted : Bool) (t : Result (Option ℕ) Refusal)
    → wanted ≡ (eqb (length (buffered s.buffer)) 128 && not (any (same_pair (once s i)) (buffered s.buffer))) → Aimed wanted s card t → Aimed (event_flushes s i) s card t
unfolding event_flushes
judged s i card wanted t e a = subst (λ (w : Bool). Aimed w s card t) e a

-- ---- what can be counted

and_none : (a b : Bool) → (not a && b) ≡ false → a ≡ false → b ≡ false
and_none true b e f = let z : ◌≡◌ {A = ℕ} 0 1 = cc in absurd (omega arith)
and_none false b e f = e

module _ (p : Probe) (n : Name) (i : ℕ) (a : Admitted p n i) where
  -- its number is a place of the register
  number-placed : i < length p.register / 65
  number-placed = rw a.number (leb-false _ _ (sym (placed p.state p.register n a.formed (register-size p.state.lengths p.card p.register a.lengths)) ∙ a.place))

  -- so its entry lies within the register
  pub in-register : Placed p.register n i
  in-register = record { formed = a.formed; good = a.good; number = a.number; inside = omega (arith, number-placed) }

  number_small : i ≤ 1023
  number_small =
      let k = state-kept p.state a.rule in
      let e : length p.register / 65 ≡ p.state.lengths.register / 65 = ap (λ (m : ℕ). m / 65) (register-size p.state.lengths p.card p.register a.lengths) in
      omega (arith, number-placed, k.lengths.most_entries)

  listed-room : elem i (listed p.state.listed) ≡ false → length (listed p.state.listed) < 64
  listed-room f = leb-false _ _ (and_none _ _ a.room (rw a.number at f))

  -- without a flush
  pub countable-plain : Aimed (event_flushes p.state i) p.state p.card (Ok None) → Countable p.state i
  unfolding event_flushes
  countable-plain e =
      let s = p.state in
      let r = rules-of s a.rule in
      let k = state-kept s a.rule in
      let short : length (buffered s.buffer) ≤ 128 = omega (arith, k.buffer.used, length-take s.buffer.used s.buffer.postings) in
      record {
        listed_kept = r.listed;
        buffer_kept = r.buffer;
        events = events-left p n i a;
        small = number_small;
        identifiers = listed-room;
        pairs = λ f. by-test (empty (buffered s.buffer))
            (λ y. let z : length (buffered s.buffer) ≡ 0 = eqb-true _ _ (empty-length (buffered s.buffer) ∙ y) in omega arith)
            (λ m. room-plain (length (buffered s.buffer)) _ short (not-wanted-only _ _ e.1 m) f);
      }

  -- after a flush, which leaves an empty buffer
  pub countable-flushed : (b : ℕ) → Countable (flushed_to p.state b) i
  unfolding flushed_to
  countable-flushed b =
      let s = p.state in
      let r = rules-of s a.rule in
      record {
        listed_kept = r.listed;
        buffer_kept = buffer-rule s.windows [] (omega arith) refl refl;
        events = events-left p n i a;
        small = number_small;
        identifiers = listed-room;
        pairs = λ f. omega arith;
      }
