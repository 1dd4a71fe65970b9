-- `sessions::lines::take_some` meets its contract: a turn obeys a line and takes in the bytes of the next one.
use Rattle.lists.proofs.Prelude.{◌-◌, ◌≤◌, length, take}
use Rattle.sessions.specs.Lines.{hand_of}
use Rattle.sessions.proofs.Taking.{Batch}
use Rattle.sessions.proofs.lines.take_some.Given as goal

abbrev pub invariant-loop-i : goal.invariant-loop-i
invariant-loop-i l =
    Batch (hand_of l.initial.state l.initial.card l.initial.register (take l.initial.n l.initial.line) (take l.initial.used l.initial.out)) l.initial.i l.piece (hand_of l.state l.card l.register (take l.n l.line) (take l.used l.out)) l.i l.n
    × (l.used ≤ length l.out)

abbrev pub decreases-loop-i : goal.decreases-loop-i
decreases-loop-i l =
    length l.piece - l.i
