use Rattle.lists.proofs.Prelude.{refl, arith}
use Rattle.words.specs.Words.{words}
use Rattle.kway.specs.Parts.{parts}
use Rattle.scores.proofs.Counts.{left-few, left-more}
use Rattle.scores.proofs.counting.total_left.Goals as goal

pub loop-i-init : goal.loop-i-init
unfolding parts
loop-i-init c = record { counted = refl; few = omega arith }

pub overflow_add-total-in-loop-i : goal.overflow_add-total-in-loop-i
overflow_add-total-in-loop-i c =
    omega (arith, left-few (words c.args.card.now) c.args.run.now c.args.heads.now c.args.m c.requires.2 c.requires.3 c.loop-i.i c.loop-i-test.true, c.loop-i.invariant.few, c.requires.1)

pub loop-i-preserved : goal.loop-i-preserved
loop-i-preserved c =
    let few = left-few (words c.args.card.now) c.args.run.now c.args.heads.now c.args.m c.requires.2 c.requires.3 c.loop-i.i c.loop-i-test.true in
    record {
      counted = left-more (words c.args.card.now) c.args.run.now c.args.heads.now c.args.m c.requires.2 c.requires.3 c.loop-i.i c.loop-i-test.true c.loop-i.total c.loop-i.invariant.counted;
      few = omega (arith, c.loop-i.invariant.few);
    }
