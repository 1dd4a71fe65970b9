use Rattle.lists.proofs.Prelude.{choose}
use Rattle.state.specs.Rules.{windows_rule}
use Rattle.rules.proofs.windows_ok.Goals as goal

pub returns : goal.returns
unfolding windows_rule
returns c = simp choose
