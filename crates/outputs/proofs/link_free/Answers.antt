use Rattle.lists.proofs.Prelude.{◌≡◌, sym, ◌∙◌, ◌-◌, arith, get_or-take}
use Rattle.words.specs.Words.{words}
use Rattle.card.specs.Blocks.{free_blocks}
use Rattle.outputs.proofs.Linking.{linking-start, linking-some, linking-in, linking-on, linking-end}
use Rattle.outputs.proofs.link_free.Goals as goal

pub free_after-first-requires : goal.free_after-first-requires
free_after-first-requires c = (c.requires.1, c.requires.2, c.requires.3, omega (arith, c.requires.4, c.requires.5))

pub loop-init : goal.loop-init
loop-init c =
    linking-start (words c.args.card.now) c.args.blocks c.args.taken c.args.n c.requires.3 c.requires.2 c.requires.1 c.requires.5 c.free_after-first.result c.requires.4 c.free_after-first.ensures

pub free_after-next-requires : goal.free_after-next-requires
free_after-next-requires c =
    let w = c.loop.invariant in
    (w.long, c.requires.2, w.on, linking-some (words c.args.card.now) c.args.blocks c.args.taken c.args.n c.requires.3 c.requires.2 c.requires.1 c.requires.5 (words c.loop.card) c.loop.last c.loop.counter w)

pub put_block_word-requires : goal.put_block_word-requires
put_block_word-requires c =
    (omega arith, linking-in (words c.args.card.now) c.args.blocks c.args.taken c.args.n c.requires.3 c.requires.2 c.requires.1 c.requires.5 (words c.loop.card) c.loop.last c.loop.counter c.loop.invariant)

pub loop-preserved : goal.loop-preserved
loop-preserved c =
    let found = c.free_after-next in
    let put = c.put_block_word in
    linking-on (words c.args.card.now) c.args.blocks c.args.taken c.args.n c.requires.3 c.requires.2 c.requires.1 c.requires.5 (words c.loop.card) c.loop.last c.loop.counter c.loop.invariant
    (omega arith) found.result found.ensures (words put.new.card) put.ensures

pub put_block_word-requires-2 : goal.put_block_word-requires-2
put_block_word-requires-2 c =
    (omega arith, linking-in (words c.args.card.now) c.args.blocks c.args.taken c.args.n c.requires.3 c.requires.2 c.requires.1 c.requires.5 (words c.loop.card) c.loop.last c.loop.counter c.loop.invariant)

pub returns : goal.returns
returns c =
    let w = c.loop.invariant in
    let put = c.put_block_word-2 in
    let all : c.loop.counter ≡ c.args.n = omega (arith, w.most) in
    let l = free_blocks (words c.args.card.now) c.args.blocks c.args.taken in (
      linking-end (words c.args.card.now) c.args.blocks c.args.taken c.args.n c.requires.3 c.requires.2 c.requires.1 c.requires.5 (words c.loop.card) c.loop.last c.loop.counter w all (words put.new.card) put.ensures,
      c.free_after-first.ensures ∙ sym (get_or-take c.args.n l 0 0 (omega (arith, c.requires.4))),
      rw (← all) (w.found ∙ sym (get_or-take c.loop.counter l (c.loop.counter - 1) 0 (omega (arith, w.some)))),
    )
