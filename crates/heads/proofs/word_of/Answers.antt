-- `heads::word_of` meets its contract: a place on the card, and one in the run.
use Rattle.lists.proofs.Prelude.{refl, arith}
use Rattle.words.specs.Words.{words}
use Rattle.heads.proofs.Heads.{place_in, word-card, word-run}
use Rattle.heads.proofs.word_of.Goals as goal

pub word_at-requires : goal.word_at-requires
word_at-requires c =
    place_in (words c.args.card.now) c.args.run.now c.args.place c.args.left c.requires.0 c.requires.1 c.if-place-lt4194304.true

pub bounds-run-at : goal.bounds-run-at
bounds-run-at c =
    let q = c.requires.1.run c.requires.0 c.if-place-lt4194304.false in
    omega (arith, q.0, c.requires.0)

pub returns-then-place-lt4194304 : goal.returns-then-place-lt4194304
returns-then-place-lt4194304 c =
    word-card (words c.args.card.now) c.args.run.now c.args.place c.word_at.result c.if-place-lt4194304.true c.word_at.ensures

pub returns-else-place-lt4194304 : goal.returns-else-place-lt4194304
returns-else-place-lt4194304 c =
    word-run (words c.args.card.now) c.args.run.now c.args.place _ c.if-place-lt4194304.false refl
