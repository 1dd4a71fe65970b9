-- `queries::refuse` meets its contract.
use Rattle.queries.proofs.refuse.Goals as goal

pub returns : goal.returns
returns c = rw c.no_hits.ensures
