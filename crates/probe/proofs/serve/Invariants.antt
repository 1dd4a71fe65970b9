-- `probe::serve` meets its contract: what is in hand after each batch is that of the bytes taken in. The measure is what is left of the piece.
use mathlib.Core.List.{[]}
use mathlib.Core.Path.{◌≡◌}
use Prim.Native.Nat.{◌-◌, ◌≤◌}
use lib.ListN.{length, take}
use Rattle.sessions.specs.Lines.{hand_of, taken, written}
use Rattle.probe.proofs.serve.Given as goal

abbrev pub invariant-loop-i : goal.invariant-loop-i
invariant-loop-i l =
    (hand_of l.state l.card l.register (take l.n l.line) [] ≡ written (taken (hand_of l.initial.state l.initial.card l.initial.register (take l.initial.n l.initial.line) []) (take l.i l.piece)))
    × (l.n ≤ 513) × (l.i ≤ length l.piece)

abbrev pub decreases-loop-i : goal.decreases-loop-i
decreases-loop-i l =
    length l.piece - l.i
