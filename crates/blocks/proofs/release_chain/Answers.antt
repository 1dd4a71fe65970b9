use Rattle.lists.proofs.Prelude.{◌≡◌, refl, sym, ◌∙◌, ◌+◌, ◌-◌, arith}
use Rattle.words.specs.Words.{words}
use Rattle.card.proofs.Chains.{chained_more}
use Rattle.blocks.proofs.Releasing.{release-more, release-none}
use Rattle.blocks.proofs.release_chain.Goals as goal

pub loop-init : goal.loop-init
loop-init c = let e : c.args.n - 0 ≡ c.args.n = omega arith in rw e (record { chained = c.requires.1; apart = c.requires.2; freed = refl })

pub overflow_cast-freed : goal.overflow_cast-freed
overflow_cast-freed c = omega (arith, (chained_more (words c.loop.card) c.loop.next (c.args.n - c.loop.counter) (omega arith) c.loop.invariant.chained).0.few)

pub block_word-next-requires : goal.block_word-next-requires
block_word-next-requires c = (chained_more (words c.loop.card) c.loop.next (c.args.n - c.loop.counter) (omega arith) c.loop.invariant.chained).0.inside

pub release_block-requires : goal.release_block-requires
release_block-requires c = (omega arith, (chained_more (words c.loop.card) c.loop.next (c.args.n - c.loop.counter) (omega arith) c.loop.invariant.chained).0.inside)

pub loop-preserved : goal.loop-preserved
loop-preserved c =
    let v = c.loop.invariant in
    let k : c.args.n - (c.loop.counter + 1) ≡ c.args.n - c.loop.counter - 1 = omega arith in
    let m = release-more (words c.loop.card) c.loop.next (c.args.n - c.loop.counter) (omega arith) v.chained v.apart in
    rw (c.release_block.ensures, c.block_word-next.ensures, k) (record { chained = m.0; apart = m.1; freed = v.freed ∙ m.2 })

pub returns : goal.returns
returns c = sym (c.loop.invariant.freed ∙ release-none (words c.loop.card) c.loop.next (c.args.n - c.loop.counter) (omega arith))
