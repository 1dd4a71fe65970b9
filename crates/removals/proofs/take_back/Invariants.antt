-- `removals::take_back` meets its contract. The invariant: the counts from the place reached on are taken back.
use Rattle.lists.proofs.Prelude.{◌≡◌}
use Rattle.state.specs.Views.{buffered, buffer_of}
use Rattle.sums.specs.Views.{counts_in}
use Rattle.removals.specs.Taking.{taken_back}
use Rattle.removals.proofs.take_back.Given as goal

abbrev pub invariant-loop-i : goal.invariant-loop-i
invariant-loop-i l = l.left ≡ buffer_of (taken_back (buffered l.fn.b) (counts_in l.fn.c) l.i)
