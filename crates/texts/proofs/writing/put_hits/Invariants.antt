-- `texts::writing::put_hits` meets its contract.
use Rattle.texts.proofs.Hits.{Listing}
use Rattle.texts.proofs.writing.put_hits.Given as goal

abbrev pub invariant-loop-i : goal.invariant-loop-i
invariant-loop-i l = Listing l.initial.out l.n l.used l.hits l.out l.m l.i
