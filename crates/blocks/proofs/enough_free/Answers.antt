use Rattle.lists.proofs.Prelude.{refl, sym, ◌∙◌, ◌+◌, ◌<◌, arith, length, drop, eq-eqb, keep, leb-less, leb-none, le-leb}
use Rattle.words.specs.Words.{words}
use Rattle.card.specs.Blocks.{is_free, after_taken, free_blocks}
use Rattle.blocks.proofs.Taking.{free-here, free-not-here, free-none}
use Rattle.blocks.proofs.enough_free.Goals as goal
use Rattle.blocks.proofs.enough_free.Goals.{then-is_free, else-is_free, else-loop-i-test, then-loop-i-test+then-missing-eq0}

pub loop-i-init : goal.loop-i-init
unfolding free_blocks
loop-i-init c = refl

pub is_free-requires : goal.is_free-requires
is_free-requires c = omega (arith, c.tried.ensures.0)

pub loop-i-preserved : goal.loop-i-preserved
loop-i-preserved c =
    let W = words c.args.card.now in
    let n = c.args.blocks in
    let t = c.args.taken in
    let b = c.tried.result in
    let e = c.tried.ensures.1 in
    let is = sym c.is_free.ensures in
    let m : 0 < c.loop-i.missing = omega arith in
    c.loop-i.invariant ∙ elim c.if-is_free.branch [
      | then-is_free w ↦ rw (w.missing-is, free-here W n t c.loop-i.i c.requires.2 b (omega arith) e (is ∙ w.if-is_free.true))
          (leb-less c.loop-i.missing (length (keep (is_free W) (drop (c.loop-i.i + 1) (after_taken n t)))) m)
      | else-is_free w ↦ rw (w.missing-is, free-not-here W n t c.loop-i.i c.requires.2 b (omega arith) e (is ∙ w.if-is_free.false))
    ]

pub returns : goal.returns
returns c =
    let W = words c.args.card.now in
    elim c.loop-i-test.branch [
      | else-loop-i-test w ↦ sym (c.loop-i.invariant ∙ rw (free-none W c.args.blocks c.args.taken c.loop-i.i c.requires.2 w.loop-i-test.false) (leb-none c.loop-i.missing))
      | then-loop-i-test+then-missing-eq0 w ↦ eq-eqb c.loop-i.missing 0 w.if-missing-eq0.true ∙ sym (c.loop-i.invariant ∙ le-leb c.loop-i.missing _ (omega arith))
    ]
