use Rattle.lists.proofs.Prelude.{sym, ap, ◌∙◌}
use Rattle.answers.specs.Numbers.{replied}
use Rattle.batches.proofs.Turns.{gives-refused, gives-done}
use Rattle.batches.proofs.remove_all.Goals as goal

pub remove_each-requires : goal.remove_each-requires
remove_each-requires c =
    sym c.judge.ensures ∙ ap replied c.in-Ok.is

pub returns-in-Err : goal.returns-in-Err
returns-in-Err c =
    let s = c.args in
    rw c.refuse.ensures (gives-refused s.s s.card.now s.named.now _ (ap replied (sym c.in-Err.is) ∙ c.judge.ensures))

pub returns-in-Ok : goal.returns-in-Ok
returns-in-Ok c =
    let s = c.args in
    rw c.done.ensures (gives-done s.s s.card.now s.named.now _ _ c.remove_each.ensures)
