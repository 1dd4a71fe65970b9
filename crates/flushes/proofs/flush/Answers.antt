use Rattle.flushes.proofs.Flushes.{gives-by, refuses, leaves}
use Rattle.flushes.proofs.flush.Goals as goal

pub flush_to-requires : goal.flush_to-requires
flush_to-requires c =
    let j = rw (c.in-Ok-Some.is, c.in-Ok-Some.field-0-is) at c.judge_flush.ensures in
    (j.1, j.2, j.3)

pub returns-in-Err : goal.returns-in-Err
returns-in-Err c =
    rw c.refuse.ensures (gives-by _ _ (rw c.in-Err.is at c.judge_flush.ensures) (refuses _))

pub returns-in-Ok-Some : goal.returns-in-Ok-Some
returns-in-Ok-Some c =
    let j = rw (c.in-Ok-Some.is, c.in-Ok-Some.field-0-is) at c.judge_flush.ensures in
    rw (c.done.ensures, c.flush_to.ensures.0, c.flush_to.ensures.1) (gives-by _ _ j.0 (leaves _ _))

pub returns-in-Ok-None : goal.returns-in-Ok-None
returns-in-Ok-None c =
    rw c.done-in-Ok-None.ensures (gives-by _ _ (rw (c.in-Ok-None.is, c.in-Ok-None.field-0-is) at c.judge_flush.ensures) (leaves _ _))
