use Rattle.lists.proofs.Prelude.{◌-◌}
use Rattle.state.specs.Probe.{store_of}
use Rattle.batches.proofs.Chain.{counts_at, Reached}
use Rattle.batches.proofs.Held.{Holding}
use Rattle.batches.proofs.remove_each.Given as goal

abbrev pub invariant-loop-i : goal.invariant-loop-i
invariant-loop-i l = Reached (store_of l.fn.s l.fn.card) l.fn.named (counts_at l.fn.s l.fn.card) l.t l.card l.i × Holding (counts_at l.fn.s l.fn.card) l.fn.named l.i l.slots
