-- `card::moved` meets its contract: a link is followed only where `Good` says that it names a block of the card.
use Rattle.lists.proofs.Prelude.{arith}
use Rattle.words.specs.Words.{words}
use Rattle.card.proofs.Cursors.{in_block, in-card, link-in}
use Rattle.card.proofs.moved.Goals as goal

pub next_block-requires : goal.next_block-requires
next_block-requires c =
    let W = words c.args.card.now in
    (in-card W c.args.c c.requires.0 c.requires.1, link-in W c.args.c (omega arith) c.requires.1 c.if-c-eq1022.true)

pub overflow_add-result : goal.overflow_add-result
overflow_add-result c = omega (arith, in_block (words c.args.card.now) c.args.c c.requires.0 c.requires.1)
