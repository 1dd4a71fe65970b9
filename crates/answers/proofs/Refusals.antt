-- Refusals by number.
use mathlib.Core.List.{[], ◌∷◌}
use mathlib.Core.Path.{◌≡◌, refl}
use Prim.Native.Nat.{ℕ, ◌≤◌}
use lib.ListN.{get_or}
use native.Mathlib.Omega.{arith}
use Rattle.answers.specs.declared.Refusal.{Refusal}
use Rattle.answers.specs.declared.Refusal.TheVariants.{BrokenState, WrongLength, Malformed, BadIdentifier, OutOfTurn, Exhausted, NotLive, RegisterFull, WindowFull, LevelFull, HalfFull, TooFewFree, NothingDue, BadQuery, Uncounted, BadList, BadStretch}
use Rattle.answers.specs.Numbers.{refusal_number}

-- the refusal with a number; none has 0
abbrev pub refusal_of : ℕ → Refusal
refusal_of n =
    get_or
    (BrokenState ∷ BrokenState ∷ WrongLength ∷ Malformed ∷ BadIdentifier ∷ OutOfTurn ∷ Exhausted ∷ NotLive ∷ RegisterFull ∷ WindowFull ∷ LevelFull ∷ HalfFull ∷ TooFewFree ∷ NothingDue ∷ BadQuery ∷ Uncounted ∷ BadList ∷ BadStretch ∷ []) n BrokenState

pub refusal-back : (why : Refusal) → refusal_of (refusal_number why) ≡ why
refusal-back BrokenState = refl
refusal-back WrongLength = refl
refusal-back Malformed = refl
refusal-back BadIdentifier = refl
refusal-back OutOfTurn = refl
refusal-back Exhausted = refl
refusal-back NotLive = refl
refusal-back RegisterFull = refl
refusal-back WindowFull = refl
refusal-back LevelFull = refl
refusal-back HalfFull = refl
refusal-back TooFewFree = refl
refusal-back NothingDue = refl
refusal-back BadQuery = refl
refusal-back Uncounted = refl
refusal-back BadList = refl
refusal-back BadStretch = refl

-- the numbers lie between 1 and 17
pub number-within : (why : Refusal) → (1 ≤ refusal_number why) × (refusal_number why ≤ 17)
number-within BrokenState = (omega arith, omega arith)
number-within WrongLength = (omega arith, omega arith)
number-within Malformed = (omega arith, omega arith)
number-within BadIdentifier = (omega arith, omega arith)
number-within OutOfTurn = (omega arith, omega arith)
number-within Exhausted = (omega arith, omega arith)
number-within NotLive = (omega arith, omega arith)
number-within RegisterFull = (omega arith, omega arith)
number-within WindowFull = (omega arith, omega arith)
number-within LevelFull = (omega arith, omega arith)
number-within HalfFull = (omega arith, omega arith)
number-within TooFewFree = (omega arith, omega arith)
number-within NothingDue = (omega arith, omega arith)
number-within BadQuery = (omega arith, omega arith)
number-within Uncounted = (omega arith, omega arith)
number-within BadList = (omega arith, omega arith)
number-within BadStretch = (omega arith, omega arith)
