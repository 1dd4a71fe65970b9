-- `forecasts::sketch_of` meets its contract.
use Rattle.state.proofs.Kept.{state-kept}
use Rattle.flushes.specs.Flush.{finished_blocks}
use Rattle.forecasts.proofs.Beginning.{begun}
use Rattle.forecasts.proofs.sketch_of.Goals as goal

pub finished_blocks-requires : goal.finished_blocks-requires
finished_blocks-requires c = (state-kept c.args.s c.requires).partitions.used

pub of_level-requires : goal.of_level-requires
of_level-requires c = (state-kept c.args.s c.requires).partitions.used

pub returns : goal.returns
unfolding finished_blocks
returns c =
    begun c.args.s c.requires c.finished_blocks.result c.of_level.result c.finished_blocks.ensures.0 c.finished_blocks.ensures.1 c.of_level.ensures
