use Rattle.removals.proofs.not_live.Goals as goal

pub returns : goal.returns
returns c = rw c.is_live.ensures
