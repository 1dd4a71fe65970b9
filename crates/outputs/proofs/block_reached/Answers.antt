use Rattle.lists.proofs.Prelude.{◌≡◌, ◌+◌, ◌-◌, ◌*◌, arith}
use Rattle.words.specs.Words.{words}
use Rattle.outputs.proofs.Places.{going_start, going-in, going_next, going_on, going_end}
use Rattle.outputs.proofs.block_reached.Goals as goal

pub loop-init : goal.loop-init
loop-init c = let e : c.args.count - 0 ≡ c.args.count = omega arith in rw e (going_start (words c.args.card.now) c.args.first c.args.n c.args.count c.requires.0)

pub block_word-block-requires : goal.block_word-block-requires
block_word-block-requires c =
    (going-in (words c.args.card.now) c.args.first c.args.n c.requires.2 c.args.count (c.args.count - 1023 * c.loop.counter) c.loop.block c.requires.1 c.loop.invariant (omega arith)).inside

pub overflow_cast-block : goal.overflow_cast-block
overflow_cast-block c =
    omega (arith, c.block_word-block.ensures, (going_next (words c.args.card.now) c.args.first c.args.n c.requires.2 c.args.count (c.args.count - 1023 * c.loop.counter) c.loop.block c.requires.1 c.loop.invariant (omega arith)).few)

pub loop-preserved : goal.loop-preserved
loop-preserved c =
    let k = c.args.count - 1023 * c.loop.counter in
    let e : c.args.count - 1023 * (c.loop.counter + 1) ≡ k - 1023 = omega arith in
    rw (c.block_word-block.ensures, e) (going_on (words c.args.card.now) c.args.first c.args.n c.requires.2 c.args.count k c.loop.block c.requires.1 c.loop.invariant (omega arith))

pub returns : goal.returns
returns c =
    going_end (words c.args.card.now) c.args.first c.args.n c.requires.2 c.args.count (c.args.count - 1023 * c.loop.counter) c.loop.block c.requires.1 c.loop.invariant (omega arith)
