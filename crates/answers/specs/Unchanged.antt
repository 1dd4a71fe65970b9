-- A refusal changes nothing.
use Rattle.std.specs.Prelude.{◌≡◌, ℕ}
use Rattle.answers.specs.Answers.{refused, Outcome, answer_of, state_of}

-- where an outcome answers with a refusal, what is there afterwards is what was there before
pub record Unchanged {S : Type 0} (s : S) (o : Outcome S) : Type 0 where
  pub same : (n : ℕ) → answer_of o ≡ refused n → state_of s o ≡ s
