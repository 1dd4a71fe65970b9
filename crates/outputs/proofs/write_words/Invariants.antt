-- `outputs::write_words` meets its contract. The invariant: writing the words that are left gives the whole, and the links are as they were.
use Rattle.words.specs.Words.{words}
use Rattle.outputs.proofs.Writing.{Writing}
use Rattle.outputs.proofs.write_words.Given as goal

abbrev pub invariant-loop-i : goal.invariant-loop-i
invariant-loop-i l = Writing (words l.initial.card) l.first l.n l.offset l.content (words l.card) l.block l.i
