use Rattle.lists.proofs.Prelude.{refl}
use Rattle.state.specs.Rules.{record_rule}
use Rattle.rules.proofs.partition_rules.record_ok.Goals as goal

pub returns : goal.returns
unfolding record_rule
returns c = refl
