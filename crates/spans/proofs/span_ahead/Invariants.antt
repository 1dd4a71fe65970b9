-- `spans::span_ahead` meets its contract. The invariant: what was met and what is to come make the span of all.
use Rattle.lists.proofs.Prelude.{◌≤◌}
use Rattle.words.specs.Words.{words}
use Rattle.card.specs.Cursors.{Good}
use Rattle.spans.proofs.Ahead.{Met}
use Rattle.spans.proofs.span_ahead.Given as goal

abbrev pub invariant-loop-at : goal.invariant-loop-at
invariant-loop-at l = Good (words l.card) l.at × Met (words l.card) l.initial.at l.at l.span.lowest l.span.highest × (l.span.lowest ≤ 65535)

abbrev pub decreases-loop-at : goal.decreases-loop-at
decreases-loop-at l = l.at.left
