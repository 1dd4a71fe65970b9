-- A state as its image, and answers as numbers.
use Rattle.std.specs.Prelude.{Result, Ok, Err}
use Rattle.answers.specs.declared.Refusal.{Refusal}
use Rattle.std.specs.Prelude.{cond, List, [], ◌∷◌, ℕ, zero, suc, ◌+◌, ◌*◌, ◌-◌, ltb, length}
use Rattle.words.specs.Words.{words, bytes}
use Rattle.answers.specs.Answers.{never, halted, Answer, done, number, hits, mean, forecast, refused}
use Rattle.answers.specs.Numbers.{refusal_number}
use Rattle.answers.specs.declared.Found.{Found}
use Rattle.state.specs.declared.State.{State}
use Rattle.images.specs.Images.{image_of, state_in}

-- the state of an image
abbrev pub state_on : List ℕ → State
state_on image = state_in (words image)

-- the image of a state
unfoldable pub imaged : State → List ℕ
imaged s = bytes (image_of s)

-- 0 is done, another number is a refusal's
abbrev pub replied_by : ℕ → Answer
replied_by zero = done
replied_by (suc n) = refused (suc n)

-- a window's number, or 65,536 more than a refusal's
abbrev pub opened_by : ℕ → Answer
opened_by n = cond (ltb n 65536) (number n) (refused (n - 65536))

-- the image after a call: as it was where it is refused, else the new state's
abbrev pub left_on : Answer → State → List ℕ → List ℕ
left_on done s image = imaged s
left_on (number n) s image = imaged s
left_on (hits l n) s image = imaged s
left_on (mean q r f) s image = imaged s
left_on (forecast k b m h) s image = imaged s
left_on (refused n) s image = image

-- the number of an answer: a refusal's; of a query 256 times how many hits there are and 65,536 times the postings taken; of a mean 65,536 times the
-- number of windows, 65,536² times the remainder and 65,536³ times the quotient; 0 where it is told elsewhere
abbrev pub number_for : Answer → ℕ
number_for done = 0
number_for (number n) = 0
number_for (hits l taken) = 256 * length l + 65536 * taken
number_for (mean q r f) = 65536 * f + 4294967296 * r + 281474976710656 * q
number_for (forecast k b m h) = 0
number_for (refused n) = n

-- the same of an answer of the code
abbrev pub number_found : Result Found Refusal → ℕ
number_found (Ok f) = 256 * f.hits + 65536 * f.taken
number_found (Err why) = refusal_number why

-- what a forecast tells, as six numbers: flushes, blocks, register entries, and window, event and number of the refusal that its plan stops at, 0 each where it
-- stops nowhere. Any other answer leaves the numbers as they were
abbrev pub told_by : Answer → List ℕ → List ℕ
told_by done told = told
told_by (number n) told = told
told_by (hits l n) told = told
told_by (mean q r f) told = told
told_by (forecast k b m never) told = k ∷ b ∷ m ∷ 0 ∷ 0 ∷ 0 ∷ []
told_by (forecast k b m (halted w j n)) told = k ∷ b ∷ m ∷ w ∷ j ∷ n ∷ []
told_by (refused n) told = told
