use Rattle.lists.proofs.Prelude.{◌+◌, ◌*◌, arith}
use Rattle.words.specs.Words.{words}
use Rattle.kway.specs.Parts.{parts}
use Rattle.kway.proofs.Parts.{ends, width, all-at}
use Rattle.scores.specs.Terms.{KeptGroup}
use Rattle.scores.proofs.Joined.{joined-none, joined-more, Due, due_all}
use Rattle.scores.proofs.scoring.take_terms.Goals as goal

pub overflow_mul-size : goal.overflow_mul-size
overflow_mul-size c = omega (arith, c.requires.2)

pub overflow_add-size : goal.overflow_add-size
overflow_add-size c = omega (arith, c.requires.2)

pub loop-j-init : goal.loop-j-init
loop-j-init c = joined-none _ _ _ _ _

pub overflow_mul-at : goal.overflow_mul-at
overflow_mul-at c =
    let e = ends (4 * c.args.m + 4) c.loop-j.j c.args.g c.loop-j-test.true in
    omega (arith, e, c.requires.0, c.requires.1, c.requires.2)

pub overflow_add-at : goal.overflow_add-at
overflow_add-at c =
    let e = ends (4 * c.args.m + 4) c.loop-j.j c.args.g c.loop-j-test.true in
    omega (arith, e, c.requires.0, c.requires.1, c.requires.2)

pub offset_bounds-heads-at : goal.offset_bounds-heads-at
offset_bounds-heads-at c =
    let e = ends (4 * c.args.m + 4) c.loop-j.j c.args.g c.loop-j-test.true in
    omega (arith, e, c.requires.0, c.requires.1, c.requires.2)

pub slice_bounds-take_term-end : goal.slice_bounds-take_term-end
slice_bounds-take_term-end c =
    let e = ends (4 * c.args.m + 4) c.loop-j.j c.args.g c.loop-j-test.true in
    omega (arith, e, c.loop-j.invariant.heads.long, c.requires.0)

pub take_term-t-requires : goal.take_term-t-requires
take_term-t-requires c =
    let W = words c.args.card.now in
    let R = c.args.run.now in
    let m = c.args.m in
    let j = c.loop-j.j in
    let H = c.args.heads.now in
    let k = all-at (KeptGroup W R m) (4 * m + 4) c.args.g H c.requires.5 j c.loop-j-test.true in
    let d = all-at (Due W R m c.args.key) (4 * m + 4) c.args.g H (due_all W R m c.args.key 0 (parts (4 * m + 4) c.args.g H) c.requires.6 c.requires.7) j c.loop-j-test.true in
    rw (width (4 * m + 4) j, c.loop-j.invariant.heads.later j (omega arith)) (k, c.requires.2, c.requires.4, d.0, d.1)

pub overflow_add-score : goal.overflow_add-score
overflow_add-score c = omega (arith, c.take_term-t.ensures.scored.1, c.loop-j.invariant.few, c.requires.3)

pub loop-j-preserved : goal.loop-j-preserved
loop-j-preserved c =
    let W = words c.args.card.now in
    let R = c.args.run.now in
    let m = c.args.m in
    let j = c.loop-j.j in
    let test = c.loop-j-test.true in
    let e = ends (4 * m + 4) j c.args.g test in
    let t = c.take_term-t in
    let u = rw (width (4 * m + 4) j) at t.ensures in
    rw c.max-next.ensures
    (joined-more W R m c.args.key c.args.heads.now j c.loop-j.heads _ _ _ c.loop-j.invariant (omega (arith, e, c.requires.0))
    t.new.group t.result.score t.result.counts t.result.next u.group.0 u.group.1 u.scored.0 u.scored.1 u.scored.2 u.scored.3)
