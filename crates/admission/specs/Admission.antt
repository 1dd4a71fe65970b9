-- What calls judge first: refusal 1 of the state, 2 of the buffers lent, and 3 of the register.
use Rattle.std.specs.Prelude.{Bool, ◌&&◌, not, cond, List, [], ◌∷◌, ℕ, Result, Ok, Err, ⊤}
use Rattle.answers.specs.Numbers.{refusal_number}
use Rattle.state.specs.declared.Lengths.{Lengths}
use Rattle.state.specs.Probe.{has_length}
use Rattle.identifiers.specs.Register.{register_rule}
use Rattle.answers.specs.declared.Refusal.{Refusal}

-- the number of the first test that holds, and 0 where none does
abbrev pub first_of : List ℕ → List Bool → ℕ
first_of [] ts = 0
first_of (n ∷ ns) [] = 0
first_of (n ∷ ns) (t ∷ ts) = cond t n (first_of ns ts)

-- the number of the refusal that is told, and 0 where the call goes on
abbrev pub told : Result ⊤ Refusal → ℕ
told (Ok x) = 0
told (Err why) = refusal_number why

-- refusal 2: both buffers have the length given at the start
abbrev pub same_lengths : Lengths → List ℕ → List ℕ → Bool
same_lengths l card register = has_length card l.card && has_length register l.register

-- refusals 1 and 2 of a call that is lent the card, where it is known whether the state is sound
abbrev pub card_tests : Bool → Lengths → List ℕ → List Bool
card_tests sound l card = not sound ∷ not (has_length card l.card) ∷ []

-- refusals 1 and 2 of a call that is lent card and register, and 3 for the register
abbrev pub probe_tests : Bool → Lengths → List ℕ → List ℕ → List Bool
probe_tests sound l card register = not sound ∷ not (same_lengths l card register) ∷ not (register_rule register) ∷ []
