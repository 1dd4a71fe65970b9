use Rattle.lists.proofs.Prelude.{◌∙◌, ◌<◌, ◌≤◌, ◌+◌, ◌*◌, arith, [], length, length-take, of_at}
use Rattle.words.specs.Words.{words}
use Rattle.state.specs.Views.{no_partition, finished}
use Rattle.partitions.specs.Reading.{postings_of}
use Rattle.partitions.specs.Terms.{Readable}
use Rattle.kway.proofs.Parts.{opened-none, opened-more, shown-more}
use Rattle.kway.proofs.Turns.{top-none, top-more}
use Rattle.scans.specs.Heads.{ahead, view, Kept, views}
use Rattle.scans.proofs.open_heads.Goals as goal

pub loop-i-init : goal.loop-i-init
loop-i-init c = record { heads = opened-none _ _ _ _ _ _; top = top-none _ _ _ }

pub open_reader-r-requires : goal.open_reader-r-requires
open_reader-r-requires c =
    rw c.finished-p-items.ensures (of_at (Readable (words c.args.card.now)) no_partition (finished c.args.ps) c.loop-i.i (rw (← c.finished-p-items.ensures) c.loop-i-test.true) c.requires.3)

pub loop-i-preserved : goal.loop-i-preserved
loop-i-preserved c =
    let W = words c.args.card.now in
    let i = c.loop-i.i in
    let H = c.loop-i.heads in
    let v = c.loop-i.invariant in
    let p = c.put-reach in
    let h = p.new.head in
    let few : i < length (finished c.args.ps) = rw (← c.finished-p-items.ensures) c.loop-i-test.true in
    let inside : 10 * i + 10 ≤ length H = omega (arith, length-take c.args.ps.used c.args.ps.records, v.heads.long, c.requires.1) in
    let read = rw c.finished-p-items.ensures at c.open_reader-r.ensures.0 in
    record {
      heads = opened-more (ahead W) (Kept W) (postings_of W) 10 (finished c.args.ps) H i h inside p.ensures.0.ten _ v.heads few no_partition p.ensures.0 (p.ensures.1 ∙ read);
      top = c.max-top.ensures ∙ rw (shown-more (view W) (Kept W) (λ x. x) 10 [] H i h inside p.ensures.0.ten, top-more 0 (views W i H) (view W h), ← v.top, p.ensures.2, ← p.ensures.3);
    }
