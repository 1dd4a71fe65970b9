-- `terms::opening::open_lists` meets its contract. The invariant: the first i heads are those of the identifier's lists in the first i partitions.
use Rattle.lists.proofs.Prelude.{◌≡◌, length}
use Rattle.words.specs.Words.{words}
use Rattle.postings.specs.Sums.{under}
use Rattle.state.specs.Views.{finished}
use Rattle.partitions.specs.Reading.{postings_of}
use Rattle.heads.specs.Heads.{Kept}
use Rattle.terms.specs.Opening.{listed}
use Rattle.terms.proofs.Puts.{Put}
use Rattle.terms.proofs.opening.open_lists.Given as goal

abbrev pub invariant-loop-i : goal.invariant-loop-i
invariant-loop-i l = record {
  long : length l.heads ≡ length l.initial.heads;
  put : Put (Kept (words l.card) l.run) (listed (words l.card) l.run l.id) (λ p. under l.id (postings_of (words l.card) p)) l.i l.heads (finished l.fn.ps);
}
