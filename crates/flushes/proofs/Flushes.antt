-- What a flush comes to, by its target, and what an outcome gives.
use Rattle.std.specs.Prelude.{Option, Some, None, Result, Ok, Err}
use Rattle.lists.proofs.Prelude.{true, List, [], ◌≡◌, refl, ◌∙◌, ℕ}
use Rattle.answers.specs.declared.Refusal.{Refusal}
use Rattle.answers.specs.Answers.{Answer, Outcome, refuse, leave, refused}
use Rattle.answers.specs.Numbers.{refusal_number}
use Rattle.answers.specs.Order as order
use Rattle.state.specs.declared.State.{State}
use Rattle.state.specs.Rules.{state_rule}
use Rattle.admission.specs.Admission.{first_of, card_tests}
use Rattle.admission.proofs.Laws.{barred, granted, card-sound}
use Rattle.flushes.specs.Flush.{flushing, flushing_if, flush_of}
use Rattle.flushes.specs.Targets.{written, Aimed, Judged}
use Rattle.windows.specs.Promises.{Gives, store_of}
use Rattle.flushes.proofs.Targets.{flushing-wanted}

-- the same outcome gives the same
pub gives-by : {S : Type 0} {s : S} (o p : Outcome S) {a : Answer} {after : S} → o ≡ p → Gives s p a after → Gives s o a after
gives-by o p e g = rw e g

-- what a refusal gives
pub refuses : {S : Type 0} {s : S} (n : ℕ) → Gives s (refuse n) (refused n) s
refuses n = record { answer = refl; left = refl }

-- what is left gives what is left
pub leaves : {S : Type 0} {s : S} (a : Answer) (t : S) → Gives s (leave a t) a t
leaves a t = record { answer = refl; left = refl }

module _ (s : State) (card : List ℕ) where
  -- refused before a target is sought
  pub flush-barred : (why : Refusal) → refusal_number why ≡ first_of order.flush (card_tests (state_rule s) s.lengths card) → Judged s card (Err why)
  unfolding flush_of
  flush-barred why e = barred [] [] (flushing s card written) order.flush (card_tests (state_rule s) s.lengths card) why e

  module _ (told : 0 ≡ first_of order.flush (card_tests (state_rule s) s.lengths card)) where
    flush-admitted : flush_of (store_of s card) ≡ flushing_if true s card written
    unfolding flush_of
    flush-admitted = granted [] [] (flushing s card written) order.flush (card_tests (state_rule s) s.lengths card) refl refl told ∙ flushing-wanted s card written

    -- judged by its target
    pub flush-judged : (t : Result (Option ℕ) Refusal) → Aimed true s card t → Judged s card t
    flush-judged (Err why) a = flush-admitted ∙ a
    flush-judged (Ok None) a = flush-admitted ∙ a.0
    flush-judged (Ok (Some b)) a = let k = card-sound (state_rule s) s.lengths card told in (flush-admitted ∙ a.0, k.rule, k.size, a.1)
