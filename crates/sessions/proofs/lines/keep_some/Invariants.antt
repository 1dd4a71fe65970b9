-- `sessions::lines::keep_some` meets its contract: byte by byte, what is kept is what is in hand.
use Rattle.sessions.proofs.Taking.{Keeping}
use Rattle.sessions.proofs.lines.keep_some.Given as goal

abbrev pub invariant-loop-i : goal.invariant-loop-i
invariant-loop-i l = Keeping l.fn.line l.fn.kept l.fn.piece l.line l.n l.i
