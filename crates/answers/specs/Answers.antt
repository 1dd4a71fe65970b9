-- What a call comes to, on whatever it works: a refusal with its number, or an answer and what is there afterwards.
use Rattle.std.specs.Prelude.{Bool, true, false, List, [], ◌∷◌, ℕ}
use Rattle.answers.specs.declared.Hit.{Hit}

-- where a plan stops: nowhere, as all its calls are done, or at the first that is refused, told by the plan's window, from 1, its event, from 1, or 0 for
-- the open, and the refusal's number
pub data Halt : Type 0 where
  never : Halt
  halted : ℕ → ℕ → ℕ → Halt

-- an answer in the document's terms: nothing but done, a window's number, a list of hits with the postings taken up,
-- a mean's quotient, remainder and number of windows, a forecast's flushes, blocks, register entries and where the plan stops, or a refusal's number
pub data Answer : Type 0 where
  done : Answer
  number : ℕ → Answer
  hits : List Hit → ℕ → Answer
  mean : ℕ → ℕ → ℕ → Answer
  forecast : ℕ → ℕ → ℕ → Halt → Answer
  refused : ℕ → Answer

-- a refusal says its number and nothing of what is there: that is as it was
pub data Outcome (S : Type 0) : Type 0 where
  refuse : ℕ → Outcome S
  leave : Answer → S → Outcome S

-- refused with n where the test holds; else what the later tests say
unfoldable pub refuse_if : {S : Type 0} → Bool → ℕ → Outcome S → Outcome S
refuse_if true n o = refuse n
refuse_if false n o = o

-- the one outcome where the test holds, else the other
unfoldable pub choose : {S : Type 0} → Bool → Outcome S → Outcome S → Outcome S
choose true o p = o
choose false o p = p

-- what is left by a call goes on to the next; a refusal ends it
unfoldable pub next : {S : Type 0} → Outcome S → (S → Outcome S) → Outcome S
next (refuse n) k = refuse n
next (leave x s) k = k s

-- one thing told by a refusal's number, another by what is left
unfoldable pub after : {S T : Type 0} → Outcome S → (ℕ → T) → (S → T) → T
after (refuse n) f g = f n
after (leave x s) f g = g s

-- a call for each of a list, one after another, where none is refused; else the first refusal
unfoldable pub in_turn : {S A : Type 0} → (S → A → Outcome S) → S → List A → Outcome S
in_turn f s [] = leave done s
in_turn f s (x ∷ xs) = next (f s x) (λ t. in_turn f t xs)

-- what is answered
abbrev pub answer_of : {S : Type 0} → Outcome S → Answer
answer_of (refuse n) = refused n
answer_of (leave x s) = x

-- what is there afterwards, where s was there before
abbrev pub state_of : {S : Type 0} → S → Outcome S → S
state_of s (refuse n) = s
state_of s (leave x t) = t

-- the same outcome, with what is left seen by f
abbrev pub carry : {S T : Type 0} → (S → T) → Outcome S → Outcome T
carry f (refuse n) = refuse n
carry f (leave x s) = leave x (f s)
