use Rattle.lists.proofs.Prelude.{⊎_elim, refl, ◌<◌, arith, length, get_or}
use Rattle.words.specs.Words.{words}
use Rattle.outputs.proofs.Entering.{entering-start, entering-end, entering-past, entering-room, entering-on}
use Rattle.outputs.proofs.write_entries.Goals as goal

pub loop-i-init : goal.loop-i-init
loop-i-init c =
    entering-start (words c.args.card.now) c.args.first c.args.n c.args.counts.now c.requires.3 c.requires.2

pub overflow_cast-count : goal.overflow_cast-count
overflow_cast-count c = omega (arith, c.shared_slice_known-1.given c.loop-i.i)

pub write_words-requires : goal.write_words-requires
write_words-requires c =
    let r = entering-room (words c.args.card.now) c.args.first c.args.n c.args.counts.now (words c.loop-i.card) c.loop-i.at c.loop-i.sum c.loop-i.i c.loop-i.invariant (omega (arith, c.requires.4)) _ refl c.if-count-ne0.true in
    (omega arith, c.requires.1, r, c.loop-i.invariant.chained)

pub overflow_add-at : goal.overflow_add-at
overflow_add-at c = omega (arith, c.loop-i.invariant.far)

pub overflow_add-sum : goal.overflow_add-sum
overflow_add-sum c =
    omega (arith, c.loop-i.invariant.sums, c.shared_slice_known-1.given c.loop-i.i)

pub loop-i-preserved : goal.loop-i-preserved
loop-i-preserved c =
    let h : c.loop-i.i < length c.args.counts.now = omega (arith, c.requires.4) in
    let f : get_or c.args.counts.now c.loop-i.i 0 < 65536 = omega (arith, c.shared_slice_known-1.given c.loop-i.i) in
    ⊎_elim
    (λ w. rw (w.card-is, w.at-is, w.sum-is) (entering-on (words c.args.card.now) c.args.first c.args.n c.args.counts.now (words c.loop-i.card) c.loop-i.at c.loop-i.sum c.loop-i.i c.loop-i.invariant h _ refl w.if-count-ne0.true (words w.write_words.new.card) (omega (arith, f)) w.write_words.ensures))
    (λ w. rw (w.card-is, w.at-is, w.sum-is) (entering-past (words c.args.card.now) c.args.first c.args.n c.args.counts.now (words c.loop-i.card) c.loop-i.at c.loop-i.sum c.loop-i.i c.loop-i.invariant h w.if-count-ne0.false))
    c.if-count-ne0.branch-raw

pub returns : goal.returns
returns c =
    entering-end (words c.args.card.now) c.args.first c.args.n c.args.counts.now (words c.loop-i.card) c.loop-i.at c.loop-i.sum c.loop-i.i c.loop-i.invariant (omega (arith, c.requires.4))
