use Rattle.std.specs.List.{slice_get}
use Rattle.lists.proofs.Prelude.{refl, sym, ap, ◌∙◌, arith}
use Rattle.words.specs.Words.{words}
use Rattle.card.specs.Blocks.{free_blocks}
use Rattle.blocks.proofs.Taking.{free-here, free-not-here, free-none}
use Rattle.blocks.proofs.next_free.Goals as goal

pub loop-i-init : goal.loop-i-init
unfolding free_blocks
loop-i-init c = refl

pub is_free-requires : goal.is_free-requires
is_free-requires c = omega (arith, c.tried-block.ensures.0)

pub returns-then-is_free : goal.returns-then-is_free
returns-then-is_free c =
    let f = sym c.is_free.ensures ∙ c.if-is_free.true in
    sym (ap (λ l. slice_get l 0) (c.loop-i.invariant ∙ free-here (words c.args.card.now) c.args.blocks c.args.taken c.loop-i.i c.requires.2 c.tried-block.result (omega arith) c.tried-block.ensures.1 f))

pub loop-i-preserved : goal.loop-i-preserved
loop-i-preserved c =
    let f = sym c.is_free.ensures ∙ c.if-is_free.false in
    c.loop-i.invariant ∙ free-not-here (words c.args.card.now) c.args.blocks c.args.taken c.loop-i.i c.requires.2 c.tried-block.result (omega arith) c.tried-block.ensures.1 f

pub returns : goal.returns
returns c =
    sym (ap (λ l. slice_get l 0) (c.loop-i.invariant ∙ free-none (words c.args.card.now) c.args.blocks c.args.taken c.loop-i.i c.requires.2 (omega arith)))
