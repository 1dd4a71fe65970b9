-- What a step comes to, once its inputs are judged.
use Rattle.std.specs.Prelude.{List, ◌≡◌, ℕ, ◌<◌, Result, MatchResult}
use Rattle.answers.specs.declared.Refusal.{Refusal}
use Rattle.answers.specs.Answers.{done, refused}
use Rattle.answers.specs.Numbers.{refusal_number}
use Rattle.state.specs.declared.State.{State}
use Rattle.inputs.specs.Judging.{Small}
use Rattle.windows.specs.Promises.{Gives, store_of}
use Rattle.merges.specs.declared.Deed.{Deed}
use Rattle.plans.specs.Acting.{third_on, next_state}

-- a step that is written leaves the state that its last test, totals and output say
pub record Written (s : State) (card : List ℕ) (d : Deed) (after : List ℕ) : Type 0 where
  pub small : Small d.totals
  pub early : s.merge.steps < 4294967295
  pub done : Gives (store_of s card) (third_on s card) done (store_of (next_state s d.last d.totals d.output) after)

-- one that is refused leaves the card
pub record Stopped (s : State) (card : List ℕ) (why : Refusal) (after : List ℕ) : Type 0 where
  pub same : after ≡ card
  pub told : Gives (store_of s card) (third_on s card) (refused (refusal_number why)) (store_of s card)

abbrev pub Acted : State → List ℕ → Result Deed Refusal → List ℕ → Type 0
Acted s card r after = MatchResult r (λ d. Written s card d after) (λ why. Stopped s card why after)
