-- The text of an answer.
use Rattle.std.specs.Prelude.{Result, Ok, Err}
use Rattle.answers.specs.declared.Refusal.{Refusal}
use Rattle.std.specs.Prelude.{cond, List, [], ◌∷◌, ◌++◌, map, ◌≡◌, ℕ, zero, suc, ◌+◌, ◌/◌, ◌%◌, ◌≤◌, ltb, length, take}
use Rattle.lists.specs.Lists.{joined}
use Rattle.answers.specs.Answers.{Answer, done, number, hits, mean, forecast, refused}
use Rattle.answers.specs.declared.Hit.{Hit}
use Rattle.answers.specs.declared.Found.{Found}

-- n in decimal without leading zeros: what stands before the last digit, then that one; `turns` of at least n never ends it early
unfoldable pub decimal_in : ℕ → ℕ → List ℕ
decimal_in zero n = (48 + n) ∷ []
decimal_in (suc turns) n = cond (ltb n 10) ((48 + n) ∷ []) (decimal_in turns (n / 10) ++ ((48 + n % 10) ∷ []))

unfoldable pub decimal : ℕ → List ℕ
decimal n = decimal_in n n

-- a line of two numbers with a space between
abbrev pub pair_text : ℕ → ℕ → List ℕ
pair_text a b = decimal a ++ (32 ∷ (decimal b ++ (10 ∷ [])))

-- a line of a hit: window and score
abbrev pub hit_text : Hit → List ℕ
hit_text h = pair_text h.window h.score

-- the lines of an answer. A query's: how many hits and the postings taken, then the hits; a mean's, which no command asks for: quotient, remainder and
-- windows; a forecast's, which none asks for either: flushes, blocks and entries; a refusal's: `!` (33) and its number
unfoldable pub answer_text : Answer → List ℕ
answer_text done = 48 ∷ 10 ∷ []
answer_text (number n) = decimal n ++ (10 ∷ [])
answer_text (hits l taken) = pair_text (length l) taken ++ joined (map hit_text l)
answer_text (mean q r f) = decimal q ++ (32 ∷ pair_text r f)
answer_text (forecast k b m h) = decimal k ++ (32 ∷ pair_text b m)
answer_text (refused n) = 33 ∷ (decimal n ++ (10 ∷ []))

-- the line for what is no command: `?`
unfoldable pub unknown_text : List ℕ
unknown_text = 63 ∷ 10 ∷ []

-- `new` is `old` with `added` written behind its first n bytes, and m counts both; the length stays
pub record Wrote (old : List ℕ) (n : ℕ) (added : List ℕ) (new : List ℕ) (m : ℕ) : Type 0 where
  pub text : take m new ≡ take n old ++ added
  pub count : m ≡ n + length added
  pub long : length new ≡ length old

-- the first n bytes of a buffer are this text
pub record Says (buffer : List ℕ) (n : ℕ) (text : List ℕ) : Type 0 where
  pub same : take n buffer ≡ text
  pub fits : n ≤ length buffer

-- an answer lists at most 32 hits
abbrev pub Few : Result Found Refusal → Type 0
Few (Ok f) = f.hits ≤ 32
Few (Err r) = Unit {0}
