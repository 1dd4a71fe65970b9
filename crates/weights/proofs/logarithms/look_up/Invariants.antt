-- `weights::logarithms::look_up` meets its contract. The invariant: the sixteenth power of n is at least 2 ^ low and below 2 ^ high. The highest set bit shows it before the
-- first turn, and each turn the entry in the middle shows it for one half.
use Rattle.lists.proofs.Prelude.{◌-◌, ◌^◌, ◌≤◌, ◌<◌}
use Rattle.weights.proofs.logarithms.look_up.Given as goal

abbrev pub invariant-loop-low : goal.invariant-loop-low
invariant-loop-low l = (l.low < l.high) × (l.high ≤ 256) × (2 ^ l.low ≤ l.n ^ 16) × (l.n ^ 16 < 2 ^ l.high)

abbrev pub decreases-loop-low : goal.decreases-loop-low
decreases-loop-low l = l.high - l.low
