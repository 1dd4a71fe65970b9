use Rattle.lists.proofs.Prelude.{map, ◌≡◌, length, take, drop}
use Rattle.sums.specs.Views.{count_in}
use Rattle.sums.proofs.counts_of.Given as goal

abbrev pub invariant-loop-i : goal.invariant-loop-i
invariant-loop-i l = record { long : length l.postings ≡ 64; counts : take l.i l.postings ≡ map (count_in l.window) (take l.i (drop 1 l.slot)) }
