use Rattle.lists.proofs.Prelude.{sym, ap, ◌∙◌, add-one, arith, not-true, not-false}
use Rattle.words.specs.Words.{words}
use Rattle.answers.specs.Answers.{answer_of}
use Rattle.batches.proofs.Verdicts.{level-full, half_full, too_few, flush-fits}
use Rattle.batches.proofs.judge_flush.Goals as goal

pub returns-then-room-before-ge16 : goal.returns-then-room-before-ge16
returns-then-room-before-ge16 c =
    let s = c.args in
    sym (ap answer_of (level-full s.room s.taken (words s.card.now) s.before c.if-room-before-ge16.true))

pub returns-then-room-before : goal.returns-then-room-before
returns-then-room-before c =
    let s = c.args in
    sym (ap answer_of (half_full s.room s.taken (words s.card.now) s.before (omega arith) (omega arith)))

pub returns-then-not-enough_free : goal.returns-then-not-enough_free
returns-then-not-enough_free c =
    let s = c.args in
    sym (ap answer_of (too_few s.room s.taken (words s.card.now) s.before (omega arith) (omega arith) (rw (← add-one s.before) (sym c.enough_free.ensures ∙ not-true _ c.if-not-enough_free.true-raw))))

pub returns : goal.returns
returns c =
    let s = c.args in
    sym (ap answer_of (flush-fits s.room s.taken (words s.card.now) s.before (omega arith) (omega arith) (rw (← add-one s.before) (sym c.enough_free.ensures ∙ not-false _ c.if-not-enough_free.false-raw))))
