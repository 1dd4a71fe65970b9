-- What an admission tells of a call's outcome, over any tests that come first and whatever follows them.
use Rattle.lists.proofs.Prelude.{Bool, true, false, ◌&&◌, not, List, [], ◌∷◌, ◌++◌, ◌≡◌, refl, ℕ, ◌≤◌, arith, eqb, leb, length, leb-true, eqb-true, every, and_left, and_right}
use Rattle.answers.specs.declared.Refusal.{Refusal}
use Rattle.answers.specs.Answers.{Outcome, refuse, refuse_if}
use Rattle.answers.specs.Numbers.{refusal_number}
use Rattle.answers.specs.Order.{admit}
use Rattle.answers.proofs.Refusals.{number-within}
use Rattle.state.specs.declared.Lengths.{Lengths}
use Rattle.state.specs.declared.State.{State}
use Rattle.state.specs.Rules.{state_rule}
use Rattle.state.proofs.Kept.{state-kept}
use Rattle.identifiers.specs.Register.{register_rule}
use Rattle.admission.specs.Admission.{first_of, same_lengths, card_tests, probe_tests}

module _ {S : Type 0} (ms : List ℕ) (us : List Bool) (o : Outcome S) where
  barred-by : (ns : List ℕ) (ts : List Bool) (n : ℕ) → 1 ≤ n → n ≡ first_of ns ts → admit (ns ++ ms) (ts ++ us) o ≡ refuse n
  unfolding refuse_if
  barred-by [] ts n h e = absurd (omega arith)
  barred-by (m ∷ ns) [] n h e = absurd (omega arith)
  barred-by (m ∷ ns) (true ∷ ts) n h e = rw e
  barred-by (m ∷ ns) (false ∷ ts) n h e = barred-by ns ts n h e

  -- the refusal that is told is the call's, whatever follows
  pub barred : (ns : List ℕ) (ts : List Bool) (why : Refusal) → refusal_number why ≡ first_of ns ts → admit (ns ++ ms) (ts ++ us) o ≡ refuse (refusal_number why)
  barred ns ts why e = barred-by ns ts (refusal_number why) (number-within why).0 e

  -- where no number is told, what follows decides
  pub granted : (ns : List ℕ) (ts : List Bool) → every (leb 1) ns ≡ true → length ns ≡ length ts → 0 ≡ first_of ns ts → admit (ns ++ ms) (ts ++ us) o ≡ admit ms us o
  unfolding refuse_if
  granted [] [] p l e = refl
  granted [] (t ∷ ts) p l e = absurd (omega arith)
  granted (m ∷ ns) [] p l e = absurd (omega arith)
  granted (m ∷ ns) (true ∷ ts) p l e = let h : 1 ≤ m = leb-true _ _ (and_left (leb 1 m) _ p) in absurd (omega arith)
  granted (m ∷ ns) (false ∷ ts) p l e = granted ns ts (and_right (leb 1 m) _ p) (omega arith) e

-- a test of two parts refuses by the first that fails, so that what is judged in parts can follow one after the other
pub refused-apart : {S : Type 0} (a b : Bool) (n : ℕ) (o : Outcome S) → refuse_if (not (a && b)) n o ≡ refuse_if (not a) n (refuse_if (not b) n o)
unfolding refuse_if
refused-apart true b n o = refl
refused-apart false b n o = refl

-- ---- what a call that goes on may rely on

both : (a b : Bool) → 0 ≡ first_of (1 ∷ 2 ∷ []) (not a ∷ not b ∷ []) → (a ≡ true) × (b ≡ true)
both true true e = (refl, refl)
both true false e = absurd (omega arith)
both false b e = absurd (omega arith)

pub all_three : (a b c : Bool) → 0 ≡ first_of (1 ∷ 2 ∷ 3 ∷ []) (not a ∷ not b ∷ not c ∷ []) → (a ≡ true) × (b ≡ true) × (c ≡ true)
all_three true true true e = (refl, refl, refl)
all_three true true false e = absurd (omega arith)
all_three true false c e = absurd (omega arith)
all_three false b c e = absurd (omega arith)

module _ (sound : Bool) (l : Lengths) (card : List ℕ) where
  pub record CardSound : Type 0 where
    pub rule : sound ≡ true
    pub size : length card ≡ l.card

  pub card-sound : 0 ≡ first_of (1 ∷ 2 ∷ []) (card_tests sound l card) → CardSound
  card-sound e = let h = both sound (eqb (length card) l.card) e in record { rule = h.0; size = eqb-true _ _ h.1 }

  module _ (register : List ℕ) where
    pub record ProbeSound : Type 0 where
      pub rule : sound ≡ true
      pub lengths : same_lengths l card register ≡ true
      pub formed : register_rule register ≡ true

    pub probe-sound : 0 ≡ first_of (1 ∷ 2 ∷ 3 ∷ []) (probe_tests sound l card register) → ProbeSound
    probe-sound e = let h = all_three sound (same_lengths l card register) (register_rule register) e in record { rule = h.0; lengths = h.1; formed = h.2 }

-- equal lengths one by one
module _ (l : Lengths) (card register : List ℕ) (e : same_lengths l card register ≡ true) where
  pub card-size : length card ≡ l.card
  card-size = eqb-true _ _ (and_left (eqb (length card) l.card) _ e)

  pub register-size : length register ≡ l.register
  register-size = eqb-true _ _ (and_right (eqb (length card) l.card) _ e)

-- a sound state's register is no longer than one can be
pub register-most : (s : State) → state_rule s ≡ true → s.lengths.register ≤ 66560
register-most s e = let k = state-kept s e in omega (arith, k.lengths.register, k.lengths.most_entries)

-- a call that is lent both buffers and goes on: the state keeps its rules, both lengths are the state's, and the register is well formed
pub admitted : (s : State) (card register : List ℕ) (sound : Bool) → sound ≡ state_rule s → 0 ≡ first_of (1 ∷ 2 ∷ 3 ∷ []) (probe_tests sound s.lengths card register)
    → (state_rule s ≡ true) × (length card ≡ s.lengths.card) × (length register ≡ s.lengths.register) × (register_rule register ≡ true)
admitted s card register sound e g =
    let f = probe-sound (state_rule s) s.lengths card register (rw e at g) in
    (f.rule, card-size s.lengths card register f.lengths, register-size s.lengths card register f.lengths, f.formed)
