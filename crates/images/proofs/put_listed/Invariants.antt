-- `images::put_listed` meets its contract. The invariant: storing the numbers that are left gives the whole.
use Rattle.lists.proofs.Prelude.{◌≡◌, ◌+◌, length, drop, sets}
use Rattle.words.specs.Words.{words}
use Rattle.images.proofs.put_listed.Given as goal

abbrev pub invariant-loop-i : goal.invariant-loop-i
invariant-loop-i l =
    (length l.image ≡ 2864) × (sets (words l.initial.image) 7 l.l.ids ≡ sets (words l.image) (7 + l.i) (drop l.i l.l.ids))
