use Rattle.lists.proofs.Prelude.{◌&&◌, ◌||◌, false, not, ◌≡◌, sym, ap, ◌∙◌, eqb, ltb, not-true, not-false}
use Rattle.words.specs.Words.{words}
use Rattle.answers.specs.Answers.{answer_of}
use Rattle.sums.specs.Views.{counts_in}
use Rattle.removals.specs.Removal.{is_live}
use Rattle.batches.proofs.Verdicts.{names-open, not_live, fits-plain, needs-flush}
use Rattle.batches.proofs.judge_removal.Goals as goal
use Rattle.batches.proofs.judge_removal.Lts as lts
use Rattle.batches.proofs.judge_removal.Tie as tie
use Rattle.batches.proofs.judge_removal.Reads as reads

abbrev Else1 : Type 0
Else1 = lts.Else1 tie.the-claims reads.Pre reads.Post

abbrev Else2 : Type 0
Else2 = lts.Else2 tie.the-claims reads.Pre reads.Post

pub returns-then-names_open : goal.returns-then-names_open
returns-then-names_open c =
    let a = c.args in
    sym (ap answer_of (names-open a.room a.taken (words a.card.now) a.v a.b a.before a.window (counts_in a.c) (sym c.names_open.ensures ∙ c.if-names_open.true)))

-- the open window is not named
shut : (c : Else1) → (not (eqb c.args.v.current 0) && eqb c.args.window c.args.v.current) ≡ false
shut c = sym c.names_open.ensures ∙ c.if-names_open.false

pub returns-then-not_live : goal.returns-then-not_live
returns-then-not_live c =
    let a = c.args in
    sym (ap answer_of (not_live a.room a.taken (words a.card.now) a.v a.b a.before a.window (counts_in a.c) (shut c.before.before.before) (sym c.not_live.ensures ∙ c.if-not_live.true)))

-- the window is live
live : (c : Else2) → (not (is_live (counts_in c.args.c)) || (ltb c.args.v.last c.args.window || eqb c.args.v.live 0)) ≡ false
live c = sym c.not_live.ensures ∙ c.if-not_live.false

pub returns-then-not-must_flush : goal.returns-then-not-must_flush
returns-then-not-must_flush c =
    let a = c.args in
    sym (ap answer_of (fits-plain a.room a.taken (words a.card.now) a.v a.b a.before a.window (counts_in a.c) (shut c.before.before.before.before.before) (live c.before.before.before) (sym c.must_flush.ensures ∙ not-true _ c.if-not-must_flush.true-raw)))

pub returns : goal.returns
returns c =
    let a = c.args in
    c.judge_flush.ensures
    ∙ sym (ap answer_of (needs-flush a.room a.taken (words a.card.now) a.v a.b a.before a.window (counts_in a.c) (shut c.before.before.before.before.before.before) (live c.before.before.before.before) (sym c.must_flush.ensures ∙ not-false _ c.if-not-must_flush.false-raw)))
