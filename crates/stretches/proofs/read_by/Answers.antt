-- `stretches::read_by` meets its contract.
use Rattle.state.proofs.Kept.{state-kept}
use Rattle.stretches.proofs.read_by.Goals as goal

pub reached-requires : goal.reached-requires
reached-requires c = (state-kept c.args.s c.requires).partitions.used
