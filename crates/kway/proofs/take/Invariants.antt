-- `kway::take` meets its contract. The invariant: the heads before i are moved, those from i on are as they were.
use Rattle.kway.proofs.Turns.{Turn}
use Rattle.kway.proofs.take.Given as goal

abbrev pub invariant-loop-i : goal.invariant-loop-i
invariant-loop-i g l = let s = g.S.Source in Turn (s.view l.source) (s.kept l.source) s.WIDTH l.key l.initial.heads l.i l.heads l.sum l.fine l.next
