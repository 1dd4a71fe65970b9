use Rattle.lists.proofs.Prelude.{◌<◌, sym, ◌∙◌, length, get_or, every-at}
use Rattle.words.specs.Words.{words}
use Rattle.state.specs.Views.{no_partition, finished}
use Rattle.state.specs.Rules.{record_rule}
use Rattle.state.proofs.Kept.{record-kept}
use Rattle.partitions.proofs.Starts.{rule-readable}
use Rattle.partitions.proofs.Apart.{formed-first, formed-breaks, formed-meets, formed-step, formed-end}
use Rattle.partitions.proofs.partitions_ok.Goals as goal

pub loop-p-init : goal.loop-p-init
loop-p-init c = formed-first (words c.args.card.now) c.args.blocks c.no_marks-marks.result (finished c.args.ps) c.no_marks-marks.ensures

pub partition_ok-requires : goal.partition_ok-requires
partition_ok-requires c =
    let l = finished c.args.ps in
    let same = c.finished-p-items.ensures in
    let h : c.loop-p.p-index < length l = rw same at c.loop-p-test.true in
    rw same (c.requires.0, c.requires.1, (record-kept c.args.blocks (get_or l c.loop-p.p-index no_partition) (every-at (record_rule c.args.blocks) l no_partition c.requires.3 c.loop-p.p-index h)).length)

pub returns-then-not-partition_ok : goal.returns-then-not-partition_ok
returns-then-not-partition_ok c =
    let l = finished c.args.ps in
    let same = c.finished-p-items.ensures in
    let h : c.loop-p.p-index < length l = rw same at c.loop-p-test.true in
    let f = rw same at (sym c.partition_ok.ensures ∙ c.if-not-partition_ok.true) in
    sym (c.loop-p.invariant ∙ formed-breaks (words c.args.card.now) c.args.blocks c.loop-p.marks l c.loop-p.p-index no_partition h f)

pub mark_chain-requires : goal.mark_chain-requires
mark_chain-requires c =
    let p = get_or c.finished-p-items.result.now c.loop-p.p-index no_partition in
    rw c.blocks_for.ensures (rule-readable (words c.args.card.now) c.args.blocks p c.requires.0 c.requires.1 (sym c.partition_ok.ensures ∙ c.if-not-partition_ok.false)).chained

pub returns-in_default : goal.returns-in_default
returns-in_default c =
    let l = finished c.args.ps in
    let same = c.finished-p-items.ensures in
    let h : c.loop-p.p-index < length l = rw same at c.loop-p-test.true in
    let t = rw same at (rw c.blocks_for.ensures at c.in_default.ensures) in
    sym (c.loop-p.invariant ∙ formed-meets (words c.args.card.now) c.args.blocks c.loop-p.marks l c.loop-p.p-index no_partition h t)

pub loop-p-preserved : goal.loop-p-preserved
loop-p-preserved c =
    let l = finished c.args.ps in
    let same = c.finished-p-items.ensures in
    let h : c.loop-p.p-index < length l = rw same at c.loop-p-test.true in
    let r = rw same at (sym c.partition_ok.ensures ∙ c.if-not-partition_ok.false) in
    let j = rw same at (rw c.blocks_for.ensures at c.in-Some.ensures) in
    c.loop-p.invariant ∙ formed-step (words c.args.card.now) c.args.blocks c.loop-p.marks l c.loop-p.p-index no_partition h r c.in-Some.m j

pub returns : goal.returns
returns c =
    let h = rw c.finished-p-items.ensures at c.loop-p-test.false in
    sym (c.loop-p.invariant ∙ formed-end (words c.args.card.now) c.args.blocks c.loop-p.marks (finished c.args.ps) c.loop-p.p-index h)
