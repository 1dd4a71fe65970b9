use Rattle.lists.proofs.Prelude.{sym, ◌∙◌, ◌<◌, length, every, of_at, turn, end}
use Rattle.words.specs.Words.{words}
use Rattle.state.specs.declared.Partition.{Partition}
use Rattle.state.specs.Views.{no_partition, finished}
use Rattle.partitions.specs.Reading.{postings_of}
use Rattle.partitions.specs.Formed.{span_rule}
use Rattle.partitions.specs.Terms.{Readable}
use Rattle.spans.proofs.spans_ok.Goals as goal

pub span_ok-requires : goal.span_ok-requires
span_ok-requires c =
    let same = c.finished-p-items.ensures in
    let h : c.loop-p.p-index < length (finished c.args.ps) = rw same at c.loop-p-test.true in
    rw same (of_at (Readable (words c.args.card.now)) no_partition (finished c.args.ps) c.loop-p.p-index h c.requires.1)

pub returns-then-not-span_ok : goal.returns-then-not-span_ok
returns-then-not-span_ok c =
    let W = words c.args.card.now in
    let same = c.finished-p-items.ensures in
    let h : c.loop-p.p-index < length (finished c.args.ps) = rw same at c.loop-p-test.true in
    let e = turn (every (λ (p : Partition). span_rule p (postings_of W p))) (finished c.args.ps) c.loop-p.p-index no_partition h c.loop-p.invariant in
    sym (e ∙ rw (rw same at (sym c.span_ok.ensures ∙ c.if-not-span_ok.true)))

pub loop-p-preserved : goal.loop-p-preserved
loop-p-preserved c =
    let W = words c.args.card.now in
    let same = c.finished-p-items.ensures in
    let h : c.loop-p.p-index < length (finished c.args.ps) = rw same at c.loop-p-test.true in
    let e = turn (every (λ (p : Partition). span_rule p (postings_of W p))) (finished c.args.ps) c.loop-p.p-index no_partition h c.loop-p.invariant in
    e ∙ rw (rw same at (sym c.span_ok.ensures ∙ c.if-not-span_ok.false))

pub returns : goal.returns
returns c =
    let W = words c.args.card.now in
    let h = rw c.finished-p-items.ensures at c.loop-p-test.false in
    sym (end (every (λ (p : Partition). span_rule p (postings_of W p))) (finished c.args.ps) c.loop-p.p-index h c.loop-p.invariant)
