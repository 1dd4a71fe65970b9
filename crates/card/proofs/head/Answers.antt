-- `card::head` meets its contract: the word to come is in its block, and the block on the card.
use Rattle.lists.proofs.Prelude.{arith}
use Rattle.words.specs.Words.{words}
use Rattle.card.proofs.Cursors.{in_block, in-card}
use Rattle.card.proofs.head.Goals as goal

pub block_word-requires : goal.block_word-requires
block_word-requires c =
    let W = words c.args.card.now in
    let a = in_block W c.args.c c.requires.0 c.requires.1 in
    let b = in-card W c.args.c c.requires.0 c.requires.1 in
    omega (arith, b.inside)
