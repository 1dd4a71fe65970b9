-- `outputs::link_free` meets its contract. The invariant: so many of the wanted blocks are found, and linking the others gives the whole.
use Rattle.words.specs.Words.{words}
use Rattle.outputs.proofs.Linking.{Linking}
use Rattle.outputs.proofs.link_free.Given as goal

abbrev pub invariant-loop : goal.invariant-loop
invariant-loop l = Linking (words l.initial.card) l.blocks l.taken l.n (words l.card) l.last l.counter
