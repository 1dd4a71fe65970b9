use Rattle.lists.proofs.Prelude.{◌+◌, ◌%◌, ◌<◌, arith}
use Rattle.words.specs.Words.{words}
use Rattle.outputs.proofs.Writing.{writing_start, writing-needs, writing-on, writing-end}
use Rattle.outputs.proofs.write_words.Goals as goal

pub block_reached-block-requires : goal.block_reached-block-requires
block_reached-block-requires c = (c.requires.1, omega (arith, c.requires.2), c.requires.3)

pub loop-i-init : goal.loop-i-init
loop-i-init c =
    writing_start (words c.args.card.now) c.args.first c.args.n c.args.offset c.args.content.now c.block_reached-block.result c.requires.3 c.block_reached-block.ensures

pub block_of-block-requires : goal.block_of-block-requires
block_of-block-requires c =
    writing-needs (words c.args.card.now) c.args.first c.args.n c.args.offset c.args.content.now (words c.loop-i.card) c.loop-i.block c.loop-i.i c.requires.2 c.loop-i.invariant c.loop-i-test.true

pub put_block_word-requires : goal.put_block_word-requires
put_block_word-requires c =
    let m = (writing-needs (words c.args.card.now) c.args.first c.args.n c.args.offset c.args.content.now (words c.loop-i.card) c.loop-i.block c.loop-i.i c.requires.2 c.loop-i.invariant c.loop-i-test.true).1 in
    (omega arith, rw c.block_of-block.ensures (let r : (c.args.offset + c.loop-i.i) % 1023 < 1023 = omega arith in omega (arith, m.inside)))

pub loop-i-preserved : goal.loop-i-preserved
loop-i-preserved c =
    let put = c.put_block_word in
    let d = c.block_of-block in
    writing-on (words c.args.card.now) c.args.first c.args.n c.args.offset c.args.content.now (words c.loop-i.card) c.loop-i.block c.loop-i.i c.requires.2 c.loop-i.invariant c.loop-i-test.true d.result d.ensures (words put.new.card) put.ensures

pub returns : goal.returns
returns c =
    writing-end (words c.args.card.now) c.args.first c.args.n c.args.offset c.args.content.now (words c.loop-i.card) c.loop-i.block c.loop-i.i c.requires.2 c.loop-i.invariant c.loop-i-test.false
