-- What the rules of the finished partitions give to a merge.
use Rattle.lists.proofs.Prelude.{true, List, [], ◌∷◌, ◌≡◌, ℕ, ◌*◌, ◌≤◌, length, every, AllOf, and_left, and_right}
use Rattle.state.specs.declared.Partition.{Partition}
use Rattle.partitions.specs.Formed.{partition_rule, partitions_formed}
use Rattle.partitions.specs.Terms.{Readable}
use Rattle.partitions.proofs.Starts.{rule-readable}

-- partitions that are well formed may be read
pub all-readable : (W : List ℕ) (limit : ℕ) (ps : List Partition) → length W ≡ 1024 * limit → limit ≤ 4096 → partitions_formed W limit ps ≡ true → AllOf (Readable W) ps
unfolding partitions_formed AllOf
all-readable W limit ps l f e = each ps (and_left _ _ e)
  where
    each : (ps : List Partition) → every (partition_rule W limit) ps ≡ true → AllOf (Readable W) ps
    each [] e = tt
    each (p ∷ ps) e = (rule-readable W limit p l f (and_left _ _ e), each ps (and_right (partition_rule W limit p) _ e))
