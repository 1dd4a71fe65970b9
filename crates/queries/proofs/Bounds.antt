-- How large the scores of a query are at most.
use Rattle.lists.proofs.Prelude.{true, List, ◌≡◌, ℕ, ◌≤◌, arith, nat_abs, leb, le-leb, length, every, and_right, every-from}
use Rattle.postings.specs.declared.Stretch.{Stretch}
use Rattle.postings.specs.Sums.{sum, under}
use Rattle.postings.proofs.Sums.{sum-under}
use Rattle.state.specs.declared.State.{State}
use Rattle.state.specs.Views.{blocks, finished}
use Rattle.identifiers.specs.Names.{Name}
use Rattle.identifiers.specs.Register.{names, register_rule}
use Rattle.partitions.specs.Reading.{postings_of, in_partitions, stored}
use Rattle.partitions.specs.Formed.{list_rule, sums_in_range, partitions_formed, identifier_formed}
use Rattle.stretches.specs.Reached.{read_by}
use Rattle.sums.specs.Tally.{lists_ruled}
use Rattle.partitions.proofs.Ranges.{sums-fit}
use Rattle.terms.proofs.Steps.{above_most}
use Rattle.ranking.specs.Hits.{score}
use Rattle.ranking.proofs.Scores.{score-most}
use Rattle.queries.specs.Query.{count_in, numbers, query_formed}
use Rattle.queries.proofs.Numbers.{numbers-few}

module _ (W : List ℕ) (s : State) where
  -- what counts of an identifier that is well formed
  count_most : (i w : ℕ) → identifier_formed W s i ≡ true → count_in W s i w ≤ 32767
  unfolding count_in identifier_formed
  count_most i w e =
      let all = and_right (sums_in_range (under i (in_partitions W (finished s.partitions)))) _ (and_right (every (λ p. list_rule (under i (postings_of W p))) (finished s.partitions)) _ e) in
      let f : nat_abs (sum (stored W s) i w) ≤ 32767 = rw (sum-under i w (stored W s)) at (sums-fit i w (under i (stored W s)) all) in
      above_most (sum (stored W s) i w) (le-leb _ _ f)

-- five identifiers that are well formed
pub formed-score : (W : List ℕ) (s : State) (t : Stretch) (register : List ℕ) (ns : List Name) (n : ℕ) (windows : List ℕ) (w : ℕ) → query_formed W s t register (numbers register ns) ≡ true → length ns ≤ 5
    → score n (count_in W (read_by t s)) windows (numbers register ns) w ≤ 306000
unfolding query_formed
formed-score W s t register ns n windows w e few =
    let is = numbers register ns in
    let r = read_by t s in
    let each = and_right (lists_ruled W r) _ (and_right (partitions_formed W (blocks s) (finished s.partitions)) _ (and_right (register_rule register) _ e)) in
    let a = score-most n (count_in W r) windows w is (every-from (identifier_formed W r) (identifier_formed W r) (λ i. leb (count_in W r i w) 32767) (λ i x y. le-leb _ _ (count_most W r i w x)) is each each) in
    omega (arith, a, numbers-few (names register) ns, few)
