-- The numbers that answers are told by.
use Rattle.lists.proofs.Prelude.{◌≡◌, refl, ap, ℕ, zero, suc, ◌+◌, ◌<◌, ◌≤◌, arith, lt-ltb, le-ltb}
use Rattle.answers.specs.declared.Refusal.{Refusal}
use Rattle.answers.specs.Answers.{number, refused}
use Rattle.answers.specs.Numbers.{refusal_number}
use Rattle.answers.proofs.Refusals.{number-within}
use Rattle.numbers.specs.Images.{replied_by, opened_by}

-- a number that is not 0 stands for a refusal
replied-some : (n : ℕ) → 1 ≤ n → replied_by n ≡ refused n
replied-some zero h = absurd (omega arith)
replied-some (suc n) h = refl

pub number-refused : (why : Refusal) → replied_by (refusal_number why) ≡ refused (refusal_number why)
number-refused why = replied-some (refusal_number why) (number-within why).0

-- the numbers of an open
pub opened-number : (n : ℕ) → n < 65536 → opened_by n ≡ number n
opened-number n h = rw (lt-ltb n 65536 h)

pub opened-refused : (n : ℕ) → opened_by (65536 + n) ≡ refused n
opened-refused n = rw (le-ltb (65536 + n) 65536 (omega arith)) (ap refused (omega arith))
