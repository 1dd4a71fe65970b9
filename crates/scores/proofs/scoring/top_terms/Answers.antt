use Rattle.lists.proofs.Prelude.{refl, ◌∙◌, ◌+◌, ◌*◌, arith}
use Rattle.words.specs.Words.{words}
use Rattle.kway.specs.Parts.{parts}
use Rattle.kway.proofs.Parts.{ends, all-at}
use Rattle.scores.specs.Terms.{KeptGroup}
use Rattle.scores.proofs.Joined.{terms-turn, group-reach}
use Rattle.scores.proofs.scoring.top_terms.Goals as goal

pub overflow_mul-size : goal.overflow_mul-size
overflow_mul-size c = omega (arith, c.requires.2)

pub overflow_add-size : goal.overflow_add-size
overflow_add-size c = omega (arith, c.requires.2)

pub loop-j-init : goal.loop-j-init
unfolding parts
loop-j-init c = refl

pub overflow_mul-size-in-loop-j : goal.overflow_mul-size-in-loop-j
overflow_mul-size-in-loop-j c =
    let e = ends (4 * c.args.m + 4) c.loop-j.j c.args.g c.loop-j-test.true in
    omega (arith, e, c.requires.0, c.requires.1, c.requires.2)

pub offset_bounds-heads-size : goal.offset_bounds-heads-size
offset_bounds-heads-size c =
    let e = ends (4 * c.args.m + 4) c.loop-j.j c.args.g c.loop-j-test.true in
    omega (arith, e, c.requires.0, c.requires.1, c.requires.2)

pub bounds-heads-size : goal.bounds-heads-size
bounds-heads-size c =
    let e = ends (4 * c.args.m + 4) c.loop-j.j c.args.g c.loop-j-test.true in
    omega (arith, e, c.requires.0, c.requires.1, c.requires.2)

pub loop-j-preserved : goal.loop-j-preserved
loop-j-preserved c =
    let W = words c.args.card.now in
    let R = c.args.run.now in
    let m = c.args.m in
    let j = c.loop-j.j in
    let H = c.args.heads.now in
    let test = c.loop-j-test.true in
    c.max-top.ensures ∙ terms-turn W R m H j c.loop-j.top _ (group-reach W R m H j (all-at (KeptGroup W R m) (4 * m + 4) c.args.g H c.requires.3 j test)) c.loop-j.invariant
