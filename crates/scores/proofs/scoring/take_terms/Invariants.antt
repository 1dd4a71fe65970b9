-- `scores::scoring::take_terms` meets its contract. The invariant: the terms before j are moved, those from j on are as they were.
use Rattle.words.specs.Words.{words}
use Rattle.scores.proofs.Joined.{Joined}
use Rattle.scores.proofs.scoring.take_terms.Given as goal

abbrev pub invariant-loop-j : goal.invariant-loop-j
invariant-loop-j l = Joined (words l.card) l.run l.m l.key l.initial.heads l.j l.heads l.score l.counts l.next
