use Rattle.lists.proofs.Prelude.{arith, rules}
use mir.Syntax.{w16}
use mir.Val.{Fits}
use Rattle.state.proofs.Kept.{state-kept}
use Rattle.flushes.specs.Flush.{finished_blocks}
use Rattle.batches.proofs.room_of.Goals as goal

pub of_level-requires : goal.of_level-requires
of_level-requires c = (state-kept c.args.s c.requires).partitions.used

pub finished_blocks-requires : goal.finished_blocks-requires
finished_blocks-requires c = (state-kept c.args.s c.requires).partitions.used

pub returns : goal.returns
unfolding finished_blocks
returns c =
    let l = c.of_level in
    let f : Fits w16 l.result = search rules in
    let u = c.finished_blocks in
    (rw (l.ensures, u.ensures.1), omega (arith, f.fits), u.ensures.0)
