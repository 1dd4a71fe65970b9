-- `recordings::adds_up` meets its contract. The loop's invariant: the numbers passed and what is left are the count.
use Rattle.lists.proofs.Prelude.{◌≡◌, ◌+◌, take, total_by}
use Rattle.recordings.proofs.adds_up.Given as goal

abbrev pub invariant-loop-n : goal.invariant-loop-n
invariant-loop-n l = total_by (λ n. n) (take l.n-index l.counts) + l.left ≡ l.fn.count
