use Rattle.ranking.proofs.enters.Goals as goal

pub returns : goal.returns
returns c = rw c.outranks.ensures
