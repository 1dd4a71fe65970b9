-- `partitions::find_list` meets its contract. The invariant: the postings under the identifier are those that the entries to come lead to.
use Rattle.lists.proofs.Prelude.{◌≡◌, ◌%◌}
use Rattle.words.specs.Words.{words}
use Rattle.postings.specs.Sums.{under}
use Rattle.card.specs.Chains.{content}
use Rattle.card.specs.Cursors.{ahead, Good}
use Rattle.partitions.specs.Reading.{field, chain_of, posting_words, postings_of}
use Rattle.partitions.proofs.Listed.{Resumes, lists_by}
use Rattle.partitions.proofs.find_list.Given as goal

abbrev pub invariant-loop-e : goal.invariant-loop-e
invariant-loop-e l =
    (l.e.left % 3 ≡ 0) × Good (words l.card) l.e
    × Resumes (field (content (words l.card) (chain_of (words l.card) l.p)) 1) (ahead (words l.card) l.e)
    × (under l.id (lists_by (posting_words (content (words l.card) (chain_of (words l.card) l.p))) (ahead (words l.card) l.e)) ≡ under l.id (postings_of (words l.card) l.p))

abbrev pub decreases-loop-e : goal.decreases-loop-e
decreases-loop-e l = l.e.left
