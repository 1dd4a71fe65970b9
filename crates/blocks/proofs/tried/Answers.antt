-- `blocks::tried` meets its contract: upward after the block last taken, then from 0 on.
use Rattle.lists.proofs.Prelude.{sym, arith}
use Rattle.blocks.proofs.Taking.{after-up, after-round}
use Rattle.blocks.proofs.tried.Goals as goal

pub returns-then-block-blocks : goal.returns-then-block-blocks
returns-then-block-blocks c =
    (c.if-block-blocks.true, sym (after-up c.args.blocks c.args.taken c.args.i c.if-block-blocks.true))

pub returns-else-block-blocks : goal.returns-else-block-blocks
returns-else-block-blocks c =
    (omega arith, sym (after-round c.args.blocks c.args.taken c.args.i c.requires.0 c.requires.2 c.if-block-blocks.false))
