-- `outputs::write_entries` meets its contract. The invariant: writing the entries of the identifiers from i on gives the whole.
use Rattle.words.specs.Words.{words}
use Rattle.outputs.proofs.Entering.{Entering}
use Rattle.outputs.proofs.write_entries.Given as goal

abbrev pub invariant-loop-i : goal.invariant-loop-i
invariant-loop-i l = Entering (words l.initial.card) l.first l.n l.counts (words l.card) l.at l.sum l.i
