-- `merges::writing::job_after` meets its contract.
use Rattle.lists.proofs.Prelude.{add-one}
use Rattle.merges.proofs.writing.job_after.Goals as goal

pub returns-then-last : goal.returns-then-last
returns-then-last c = rw c.if-last.true

pub returns : goal.returns
returns c = rw (c.output_length.ensures, c.if-last.false, add-one c.args.steps)
