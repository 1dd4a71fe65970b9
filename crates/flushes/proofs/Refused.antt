-- Refused means unchanged, for a flush and for what follows one.
use Rattle.lists.proofs.Prelude.{Bool, List, ℕ}
use Rattle.answers.specs.Answers.{Outcome}
use Rattle.answers.specs.Unchanged.{Unchanged}
use Rattle.answers.proofs.Kept.{unchanged-if, unchanged-choose, unchanged-done}
use Rattle.state.specs.declared.State.{State}
use Rattle.state.specs.Probe.{Store}
use Rattle.flushes.specs.Flush.{flushing, flushing_if, flush_of}

-- of what follows a flush, from what the continuation says
module _ {S : Type 0} {before : S} (s : State) (card : List ℕ) (k : State → List ℕ → Outcome S) (h : (t : State) (after : List ℕ) → Unchanged before (k t after)) where
  unchanged-flushing : Unchanged before (flushing s card k)
  unfolding flushing
  unchanged-flushing = unchanged-choose _ _ _ (h s card) (unchanged-if _ 10 _ (unchanged-if _ 11 _ (unchanged-if _ 12 _ (h _ _))))

  pub unchanged-flushing-if : (t : Bool) → Unchanged before (flushing_if t s card k)
  unfolding flushing_if
  unchanged-flushing-if t = unchanged-choose t _ _ unchanged-flushing (h s card)

pub flush-unchanged : (p : Store) → Unchanged p (flush_of p)
unfolding flush_of
flush-unchanged p = unchanged-if _ 1 _ (unchanged-if _ 2 _ (unchanged-flushing _ _ _ (λ t after. unchanged-done _)))
