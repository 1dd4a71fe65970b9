-- What an event comes to before anything is written: the number of its identifier, or a refusal.
use Rattle.std.specs.Prelude.{Result, Ok, Err}
use Rattle.answers.specs.declared.Refusal.{Refusal}
use Rattle.std.specs.Prelude.{Bool, true, false, ◌&&◌, not, List, [], ◌∷◌, ◌≡◌, ℕ, ◌+◌, ◌*◌, ◌/◌, ◌<◌, ◌≤◌, eqb, leb, length}
use Rattle.lists.specs.Lists.{any, elem}
use Rattle.postings.specs.Order.{same_pair}
use Rattle.answers.specs.Answers.{refuse}
use Rattle.answers.specs.Numbers.{refusal_number}
use Rattle.answers.specs.Order as order
use Rattle.answers.specs.Order.{past}
use Rattle.state.specs.declared.Windows.{Windows}
use Rattle.state.specs.declared.Listed.{Listed}
use Rattle.state.specs.declared.State.{State}
use Rattle.state.specs.Views.{listed, buffered}
use Rattle.state.specs.Rules.{listed_rule, buffer_rule, state_rule}
use Rattle.state.specs.Probe.{Probe}
use Rattle.identifiers.specs.Names.{Name, bad_length, number_of}
use Rattle.identifiers.specs.Register.{names, register_rule}
use Rattle.admission.specs.Admission.{first_of, same_lengths}
use Rattle.windows.specs.Calls.{is_open}
use Rattle.events.specs.Event.{once, number_for, register_full, window_full, event_of}

-- an event that none of refusals 1 to 9 stops, and its identifier's number
pub record Admitted (p : Probe) (n : Name) (i : ℕ) : Type 0 where
  pub rule : state_rule p.state ≡ true
  pub lengths : same_lengths p.state.lengths p.card p.register ≡ true
  pub formed : register_rule p.register ≡ true
  pub good : bad_length n ≡ false
  pub current : is_open p.state ≡ true
  pub events : leb 32767 p.state.windows.events ≡ false
  pub place : register_full p n ≡ false
  pub room : window_full p n ≡ false
  pub number : i ≡ number_for p n

-- a verdict tells what the event comes to: its refusal, or that its flush and then its count are what is left
abbrev pub Judged : Probe → Name → Result ℕ Refusal → Type 0
Judged p n (Err why) = event_of p n ≡ refuse (refusal_number why)
Judged p n (Ok i) = Admitted p n i

-- refusals 5 to 9 of an event of the identifier with a number, by the parts that they look at, with room for so many identifiers: a new one finds none where
-- its number is no place
abbrev pub number_tests : Windows → Listed → ℕ → ℕ → List Bool
number_tests w l room i = eqb w.current 0 ∷ leb 32767 w.events ∷ leb room i ∷ (not (elem i (listed l)) && leb 64 (length (listed l))) ∷ []

-- refusals 4 to 9 of an event, where these identifiers are there
abbrev pub tests_among : Windows → Listed → ℕ → List Name → Name → List Bool
tests_among w l room ms n = bad_length n ∷ number_tests w l room (number_of ms n)

-- the same for the identifiers of a register
abbrev pub turn_tests : Windows → Listed → List ℕ → Name → List Bool
turn_tests w l register n = tests_among w l (length register / 65) (names register) n

-- a verdict by tests with these numbers, of an identifier with the number m
abbrev pub Weighed : List ℕ → List Bool → ℕ → Result ℕ Refusal → Type 0
Weighed ns ts m (Err why) = refusal_number why ≡ first_of ns ts
Weighed ns ts m (Ok i) = (0 ≡ first_of ns ts) × (i ≡ m)

-- a verdict of refusals 4 to 9
abbrev pub Turned : Windows → Listed → List ℕ → Name → Result ℕ Refusal → Type 0
Turned w l register n v = Weighed (past 3 order.event) (turn_tests w l register n) (number_of (names register) n) v

-- an identifier of a good length has its number's entry in the register, used or not
pub record Placed (register : List ℕ) (n : Name) (i : ℕ) : Type 0 where
  pub formed : register_rule register ≡ true
  pub good : bad_length n ≡ false
  pub number : i ≡ number_of (names register) n
  pub inside : 65 * i + 65 ≤ length register

-- an event of identifier i can be counted: the lists that it changes keep their rules, the window is below its most events, and there is room for the
-- identifier and for its pair
pub record Countable (s : State) (i : ℕ) : Type 0 where
  pub listed_kept : listed_rule s.windows s.listed ≡ true
  pub buffer_kept : buffer_rule s.windows s.buffer ≡ true
  pub events : s.windows.events < 32767
  pub small : i ≤ 1023
  pub identifiers : elem i (listed s.listed) ≡ false → length (listed s.listed) < 64
  pub pairs : any (same_pair (once s i)) (buffered s.buffer) ≡ false → length (buffered s.buffer) < 128
