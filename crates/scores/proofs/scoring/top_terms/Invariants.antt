-- `scores::scoring::top_terms` meets its contract. The invariant: `top` is that of the terms before j.
use Rattle.lists.proofs.Prelude.{◌≡◌}
use Rattle.words.specs.Words.{words}
use Rattle.keyed.specs.Groups.{top_all}
use Rattle.scores.specs.Terms.{terms_of}
use Rattle.scores.specs.Scores.{groups_in}
use Rattle.scores.proofs.scoring.top_terms.Given as goal

abbrev pub invariant-loop-j : goal.invariant-loop-j
invariant-loop-j l = l.top ≡ top_all 0 (groups_in (terms_of (words l.card) l.run l.m l.j l.heads))
