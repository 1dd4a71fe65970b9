-- `spans::spans_ok` meets its contract. The invariant: the answer for all is the answer for those from the next on.
use Rattle.lists.proofs.Prelude.{◌≡◌, drop, every}
use Rattle.words.specs.Words.{words}
use Rattle.state.specs.Views.{finished}
use Rattle.partitions.specs.Reading.{postings_of}
use Rattle.partitions.specs.Formed.{span_rule}
use Rattle.spans.proofs.spans_ok.Given as goal

abbrev pub invariant-loop-p : goal.invariant-loop-p
invariant-loop-p l =
    every (λ p. span_rule p (postings_of (words l.card) p)) (finished l.fn.ps) ≡ every (λ p. span_rule p (postings_of (words l.card) p)) (drop l.p-index (finished l.fn.ps))
