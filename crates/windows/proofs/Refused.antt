-- Refused means unchanged, for start, open and close.
use Rattle.lists.proofs.Prelude.{List, ℕ}
use Rattle.answers.specs.Unchanged.{Unchanged}
use Rattle.answers.proofs.Kept.{unchanged-if, unchanged-done, unchanged-number}
use Rattle.state.specs.declared.State.{State}
use Rattle.windows.specs.Calls.{start_of, unstarted, open_of, close_of}

pub start-unchanged : (card register : List ℕ) → Unchanged (unstarted card register) (start_of card register)
unfolding start_of
start-unchanged card register = unchanged-if _ 2 _ (unchanged-done _)

pub open-unchanged : (s : State) → Unchanged s (open_of s)
unfolding open_of
open-unchanged s = unchanged-if _ 1 _ (unchanged-if _ 5 _ (unchanged-if _ 6 _ (unchanged-number _ _)))

pub close-unchanged : (s : State) → Unchanged s (close_of s)
unfolding close_of
close-unchanged s = unchanged-if _ 1 _ (unchanged-if _ 5 _ (unchanged-done _))
