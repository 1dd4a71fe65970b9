use Rattle.lists.proofs.Prelude.{[], ◌∷◌, ◌≡◌, refl, sym, ap, ◌∙◌, ◌+◌, ◌-◌, ◌<◌, ◌≤◌, arith, leb-true, length, length-append, length-map, and_left}
use Rattle.words.specs.Words.{words}
use Rattle.words.proofs.Views.{words-below}
use Rattle.postings.specs.Merge.{nonzero}
use Rattle.card.specs.Cursors.{ahead}
use Rattle.card.proofs.Cursors.{length-ahead}
use Rattle.partitions.specs.Layout.{word_of}
use Rattle.partitions.specs.Formed.{in_range}
use Rattle.inputs.specs.Judging.{all_in_range}
use Rattle.inputs.specs.Ahead.{pairs_ahead, out_words}
use Rattle.inputs.proofs.Taking.{ahead_none}
use Rattle.inputs.proofs.Batches.{take_none, take-empty, drop-none, drop-empty, drop-next, words-next, words-none, compare-more, compare-done}
use Rattle.inputs.proofs.pass.Goals as goal

pub loop-init : goal.loop-init
loop-init c =
    let z : c.args.m - 0 ≡ c.args.m = omega arith in
    rw z (record {
      formed = c.requires.0;
      good = c.requires.1;
      same = record { same = refl; rest = refl; room = omega (arith, c.requires.2, length-ahead (words c.args.card.now) c.args.out) };
      left = refl;
    })

pub returns-then-top-eq0 : goal.returns-then-top-eq0
returns-then-top-eq0 c =
    let W = words c.args.card.now in
    let small = words-below c.args.card.now (λ k. omega (arith, c.type_inv.card k)) in
    let v = c.loop.invariant in
    let left = c.args.m - c.loop.counter in
    let ps = pairs_ahead W c.args.n c.loop.heads in
    let q = ahead_none W small c.args.n c.loop.heads c.loop.top v.formed c.if-top-eq0.true in
    let d = compare-done _ _ _ _ _ v.same (words-none (take-empty left ps q)) in
    (record { same = sym d.0; rest = sym d.1 }, sym (v.left ∙ drop-empty left ps q), v.formed, v.good)

pub next_pair-t-requires : goal.next_pair-t-requires
next_pair-t-requires c = (c.loop.invariant.formed, omega arith)

pub compare-d-requires : goal.compare-d-requires
compare-d-requires c =
    let W = words c.args.card.now in
    let v = c.loop.invariant in
    let t = c.next_pair-t in
    let p = t.result.pair in
    let e = t.ensures.0 in
    let on = pairs_ahead W c.args.n t.new.heads in
    let w = words-next c.args.m c.loop.counter (pairs_ahead W c.args.n c.loop.heads) on p c.loop-test.true e in
    let l = ap length w ∙ length-append (out_words 1 (p ∷ [])) (out_words (c.args.m - (c.loop.counter + 1)) on) in (
      v.good,
      omega (arith, l, v.same.room, length-ahead W c.loop.o, length-map (nonzero (p ∷ [])) word_of),
      leb-true _ 32767 (and_left (in_range p.count) _ (sym (ap all_in_range e) ∙ v.formed.sums)),
    )

pub loop-preserved : goal.loop-preserved
loop-preserved c =
    let W = words c.args.card.now in
    let v = c.loop.invariant in
    let t = c.next_pair-t in
    let p = t.result.pair in
    let i = c.loop.counter in
    let h : i < c.args.m = c.loop-test.true in
    let e = t.ensures.0 in
    let was = pairs_ahead W c.args.n c.loop.heads in
    let on = pairs_ahead W c.args.n t.new.heads in
    let w = words-next c.args.m i was on p h e in
    let d = c.compare-d in
    record {
      formed = t.ensures.1;
      good = d.ensures.1;
      same = (compare-more _ _ _ _ _ v.same (out_words 1 (p ∷ [])) (out_words (c.args.m - (i + 1)) on) (ahead W d.result.out) d.result.same w d.ensures.0);
      left = v.left ∙ drop-next c.args.m i was on p h e;
    }

pub returns-after-loop : goal.returns-after-loop
returns-after-loop c =
    let v = c.loop.invariant in
    let ps = pairs_ahead (words c.args.card.now) c.args.n c.loop.heads in
    let h : c.args.m ≤ c.loop.counter = omega (arith, c.loop-test.false) in
    let d = compare-done _ _ _ _ _ v.same (words-none (take_none c.args.m c.loop.counter ps h)) in
    (record { same = sym d.0; rest = sym d.1 }, sym (v.left ∙ drop-none c.args.m c.loop.counter ps h), v.formed, v.good)
