-- What the rules of the state and of the finished partitions give to a merge.
use Rattle.lists.proofs.Prelude.{true, not, ◌&&◌, List, ◌≡◌, leb, nat_abs, le-leb, every, and_both, every-from}
use Rattle.postings.specs.declared.Posting.{Posting}
use Rattle.postings.specs.Merge.{is_zero}
use Rattle.state.specs.declared.Windows.{Windows}
use Rattle.state.specs.Rules.{posting_rule}
use Rattle.state.proofs.Kept.{posting-kept}
use Rattle.partitions.specs.Formed.{in_range}
pub use Rattle.kway.proofs.Readable.{all-readable}

module _ (w : Windows) (l : List Posting) (e : every (posting_rule w) l ≡ true) where
  -- their counts fit a word
  pub rule-sizes : every (λ p. in_range p.count) l ≡ true
  rule-sizes = every-from (posting_rule w) (posting_rule w) (λ p. in_range p.count) (λ p a b. le-leb (nat_abs p.count) 32767 (posting-kept w p a).small) l e e

  -- neither window nor count is 0
  pub rule-each : every (λ p. leb 1 p.window && not (is_zero p.count)) l ≡ true
  rule-each =
      every-from (posting_rule w) (posting_rule w) (λ p. leb 1 p.window && not (is_zero p.count))
      (λ p a b. let k = posting-kept w p a in and_both (leb 1 p.window) _ (le-leb 1 p.window k.some) (rw k.counts)) l e e
