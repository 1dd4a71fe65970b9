use Rattle.lists.proofs.Prelude.{not, refl, sym, ap, ◌∙◌, arith, length, not-false}
use Rattle.windows.specs.Calls.{start_of, unstarted, fresh}
use Rattle.windows.proofs.Outcomes.{stopped, passed, given}
use Rattle.windows.proofs.Lengths.{lengths-started}
use Rattle.windows.proofs.start.Goals as goal

pub returns-then-not-lengths_ok : goal.returns-then-not-lengths_ok
unfolding start_of unstarted
returns-then-not-lengths_ok c =
    rw (c.refuse.ensures, c.empty_state.ensures) (stopped _ 2 _ (ap not (sym c.lengths_ok.ensures) ∙ c.if-not-lengths_ok.true-raw))

pub overflow_cast-bytes : goal.overflow_cast-bytes
overflow_cast-bytes c =
    let a = c.args in
    let k = lengths-started (length a.card.now) (length a.register.now) (sym c.lengths_ok.ensures ∙ not-false _ c.if-not-lengths_ok.false-raw) in
    omega (arith, k.card, k.most_blocks)

pub overflow_cast-entries : goal.overflow_cast-entries
overflow_cast-entries c =
    let a = c.args in
    let k = lengths-started (length a.card.now) (length a.register.now) (sym c.lengths_ok.ensures ∙ not-false _ c.if-not-lengths_ok.false-raw) in
    omega (arith, k.register, k.most_entries)

pub overflow_sub-bytes : goal.overflow_sub-bytes
overflow_sub-bytes c =
    let a = c.args in
    let k = lengths-started (length a.card.now) (length a.register.now) (sym c.lengths_ok.ensures ∙ not-false _ c.if-not-lengths_ok.false-raw) in
    omega (arith, k.fewest_blocks)

pub overflow_cast-bytes-2 : goal.overflow_cast-bytes-2
overflow_cast-bytes-2 c =
    let a = c.args in
    let k = lengths-started (length a.card.now) (length a.register.now) (sym c.lengths_ok.ensures ∙ not-false _ c.if-not-lengths_ok.false-raw) in
    omega (arith, k.most_blocks)

pub returns : goal.returns
unfolding start_of unstarted fresh
returns c =
    rw (c.done.ensures, c.empty_state-s.ensures, c.fill.ensures.after (λ y e. e), c.fill-2.ensures.after (λ y e. e))
    (passed _ 2 _ (ap not (sym c.lengths_ok.ensures) ∙ c.if-not-lengths_ok.false-raw) (given _ refl))
