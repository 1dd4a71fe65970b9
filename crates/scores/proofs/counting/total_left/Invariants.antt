-- `scores::counting::total_left` meets its contract. The invariant: `total` is what the heads before i have to come.
use Rattle.lists.proofs.Prelude.{◌≡◌, ◌≤◌, ◌*◌, length, total_by}
use Rattle.words.specs.Words.{words}
use Rattle.heads.specs.Heads.{views}
use Rattle.scores.proofs.counting.total_left.Given as goal

abbrev pub invariant-loop-i : goal.invariant-loop-i
invariant-loop-i l = record { counted : l.total ≡ total_by length (views (words l.card) l.run l.i l.heads); few : l.total ≤ 65536 * l.i }
