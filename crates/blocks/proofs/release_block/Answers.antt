use Rattle.lists.proofs.Prelude.{◌≡◌, sym, ◌∙◌, ◌+◌, ◌-◌, ◌*◌, arith}
use Rattle.words.specs.Words.{words}
use Rattle.words.proofs.Views.{length-words}
use Rattle.blocks.proofs.Releasing.{ones-more, ones_none, release-one}
use Rattle.blocks.proofs.release_block.Goals as goal

pub loop-i-init : goal.loop-i-init
loop-i-init c = let e : 1024 * c.args.block + 0 ≡ 1024 * c.args.block = omega arith in release-one (words c.args.card.now) c.args.block ∙ rw e

pub put_block_word-requires : goal.put_block_word-requires
put_block_word-requires c = omega (arith, length-words c.loop-i.card, length-words c.args.card.now)

pub loop-i-preserved : goal.loop-i-preserved
loop-i-preserved c =
    let n : 1024 - (c.loop-i.i + 1) ≡ 1024 - c.loop-i.i - 1 = omega arith in
    let k : 1024 * c.args.block + (c.loop-i.i + 1) ≡ 1024 * c.args.block + c.loop-i.i + 1 = omega arith in
    c.loop-i.invariant ∙ ones-more (words c.loop-i.card) (1024 * c.args.block + c.loop-i.i) (1024 - c.loop-i.i) (omega arith) ∙ rw (c.put_block_word.ensures, n, k)

pub returns : goal.returns
returns c = sym (c.loop-i.invariant ∙ ones_none _ (1024 * c.args.block + c.loop-i.i) (1024 - c.loop-i.i) (omega arith))
