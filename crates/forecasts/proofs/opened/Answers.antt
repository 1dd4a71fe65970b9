-- `forecasts::opened` meets its contract.
use Rattle.lists.proofs.Prelude.{add-one}
use Rattle.forecasts.proofs.opened.Goals as goal

pub returns : goal.returns
returns c = simp add-one
