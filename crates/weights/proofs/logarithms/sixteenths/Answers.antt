-- `weights::logarithms::sixteenths` meets its contract: that its table keeps the rule is computed, over all entries at once.
use Rattle.lists.proofs.Prelude.{refl, rising, rules}
use Rattle.weights.specs.Thresholds.{is_threshold, thresholds}
use Rattle.weights.proofs.logarithms.sixteenths.Goals as goal

pub look_up-requires : goal.look_up-requires
unfolding thresholds is_threshold rising
look_up-requires c = (refl, search rules, search rules)
