-- `scores::counting::judge_term` meets its contract: what is told says whether all is well formed.
use Rattle.std.specs.Prelude.{is_some}
use Rattle.lists.proofs.Prelude.{ap, ◌∙◌}
use Rattle.scores.proofs.Serving.{told-some}
use Rattle.scores.proofs.counting.judge_term.Goals as goal

pub returns : goal.returns
returns c = c.is_some.ensures ∙ ap is_some c.count_term.ensures.told ∙ told-some _ _ _ _
