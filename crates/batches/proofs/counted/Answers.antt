use Rattle.lists.proofs.Prelude.{arith}
use Rattle.batches.proofs.counted.Goals as goal

pub returns-then-flush : goal.returns-then-flush
returns-then-flush c = rw c.if-flush.true (omega arith)

pub returns-else-flush : goal.returns-else-flush
returns-else-flush c = rw c.if-flush.false
