use Rattle.lists.proofs.Prelude.{and-false, passed, failed}
use Rattle.state.specs.Rules.{state_rule}
use Rattle.state.proofs.Kept.{partitions-kept}
use Rattle.rules.proofs.state_ok.Goals as goal

pub returns-then-not-partitions_ok : goal.returns-then-not-partitions_ok
unfolding state_rule
returns-then-not-partitions_ok c = simp (failed c.partitions_ok.ensures c.if-not-partitions_ok.true-raw, and-false)

pub merge_ok-requires : goal.merge_ok-requires
merge_ok-requires c =
    let k = partitions-kept _ _ (passed c.partitions_ok.ensures c.if-not-partitions_ok.false-raw) in
    k.used

pub returns : goal.returns
unfolding state_rule
returns c =
    rw (
      passed c.partitions_ok.ensures c.if-not-partitions_ok.false-raw,
      c.windows_ok.ensures,
      c.lengths_ok.ensures,
      c.buffer_ok.ensures,
      c.listed_ok.ensures,
      c.merge_ok.ensures,
    )
