use Rattle.lists.proofs.Prelude.{refl, ◌<◌, arith, length}
use Rattle.words.specs.Words.{words}
use Rattle.state.specs.Views.{no_partition, finished}
use Rattle.outputs.proofs.Freeing.{freeing-end, freeing-chained, freeing-different, freeing-on}
use Rattle.outputs.proofs.release_inputs.Goals as goal

pub loop-p-init : goal.loop-p-init
loop-p-init c = record { chained = c.requires.2; apart = c.requires.3; rest = refl }

pub release_chain-requires : goal.release_chain-requires
release_chain-requires c =
    let W₀ = words c.args.card.now in
    let W = words c.loop-p.card in
    let l = finished c.args.ps in
    let same = c.finished-p-items.ensures in
    let h : c.loop-p.p-index < length l = rw same at c.loop-p-test.true in
    rw (c.blocks_for.ensures, same)
    (omega arith, freeing-chained W₀ l W c.loop-p.p-index no_partition c.loop-p.invariant h, freeing-different W₀ l W c.loop-p.p-index no_partition c.loop-p.invariant h)

pub loop-p-preserved : goal.loop-p-preserved
loop-p-preserved c =
    let l = finished c.args.ps in
    let same = c.finished-p-items.ensures in
    let h : c.loop-p.p-index < length l = rw same at c.loop-p-test.true in
    let e = rw same at (rw c.blocks_for.ensures at c.release_chain.ensures) in
    freeing-on (words c.args.card.now) l (words c.loop-p.card) c.loop-p.p-index no_partition c.loop-p.invariant h (words c.release_chain.new.card) e

pub returns : goal.returns
returns c =
    let h = rw c.finished-p-items.ensures at c.loop-p-test.false in
    freeing-end (words c.args.card.now) (finished c.args.ps) (words c.loop-p.card) c.loop-p.p-index no_partition c.loop-p.invariant h
