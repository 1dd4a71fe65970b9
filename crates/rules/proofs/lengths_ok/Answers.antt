use Rattle.state.specs.Rules.{lengths_rule}
use Rattle.rules.proofs.lengths_ok.Goals as goal

pub returns : goal.returns
unfolding lengths_rule
returns c = c.lengths_ok.ensures
