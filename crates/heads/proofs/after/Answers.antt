-- `heads::after` meets its contract: in the run, at the end of a block, and elsewhere on the card.
use Rattle.lists.proofs.Prelude.{arith}
use Rattle.words.specs.Words.{words}
use Rattle.heads.proofs.Heads.{after_run, link-place, link-few, after-link, after_next}
use Rattle.heads.proofs.after.Goals as goal

pub overflow_add-result : goal.overflow_add-result
overflow_add-result c =
    let q = c.requires.1.run (omega (arith, c.requires.0)) c.if-place-ge4194304.true in
    omega (arith, q.1, c.requires.0)

pub returns-then-place-ge4194304 : goal.returns-then-place-ge4194304
returns-then-place-ge4194304 c =
    after_run (words c.args.card.now) c.args.run.now c.args.place c.args.left (omega (arith, c.requires.0)) c.requires.1 c.requires.0 c.if-place-ge4194304.true

pub word_at-requires : goal.word_at-requires
word_at-requires c =
    link-place (words c.args.card.now) c.args.run.now c.args.place c.args.left (omega (arith, c.requires.0)) c.requires.1 c.requires.0 (omega (arith, c.if-place-ge4194304.false)) c.if-place-eq1022.true

pub overflow_mul-result : goal.overflow_mul-result
overflow_mul-result c =
    let f = link-few (words c.args.card.now) c.args.run.now c.args.place c.args.left (omega (arith, c.requires.0)) c.requires.1 c.requires.0 (omega (arith, c.if-place-ge4194304.false)) c.word_at.result c.if-place-eq1022.true c.word_at.ensures in
    omega (arith, f)

pub returns-then-place-eq1022 : goal.returns-then-place-eq1022
returns-then-place-eq1022 c =
    after-link (words c.args.card.now) c.args.run.now c.args.place c.args.left (omega (arith, c.requires.0)) c.requires.1 c.requires.0 (omega (arith, c.if-place-ge4194304.false)) c.word_at.result c.if-place-eq1022.true c.word_at.ensures

pub returns-else-place-eq1022 : goal.returns-else-place-eq1022
returns-else-place-eq1022 c =
    after_next (words c.args.card.now) c.args.run.now c.args.place c.args.left (omega (arith, c.requires.0)) c.requires.1 c.requires.0 (omega (arith, c.if-place-ge4194304.false)) c.if-place-eq1022.false
