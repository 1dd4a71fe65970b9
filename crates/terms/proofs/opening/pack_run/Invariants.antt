-- `terms::opening::pack_run` meets its contract. The invariant: the words before i are those of the postings before i.
use Rattle.lists.proofs.Prelude.{map, ◌≡◌, length, take}
use Rattle.state.specs.Views.{buffered}
use Rattle.terms.specs.Opening.{word_for}
use Rattle.terms.proofs.opening.pack_run.Given as goal

abbrev pub invariant-loop-i : goal.invariant-loop-i
invariant-loop-i l = record { long : length l.run ≡ 128; words : take l.i l.run ≡ map word_for (take l.i (buffered l.fn.b)) }
