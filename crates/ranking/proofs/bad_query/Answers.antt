-- `ranking::bad_query` meets its contract, part by part.
use Rattle.lists.proofs.Prelude.{lt-ltb, le-ltb, refl, sym, ◌∙◌, eqb, length, or_right}
use Rattle.ranking.proofs.Asked.{bad-parts}
use Rattle.ranking.proofs.bad_query.Goals as goal

pub returns-then-count-gt5 : goal.returns-then-count-gt5
returns-then-count-gt5 c =
    let a = c.args in
    sym (bad-parts a.ids.now a.places ∙ rw (lt-ltb 5 (length a.ids.now) c.if-count-gt5.true) (or_right (eqb (length a.ids.now) 0) _ refl))

pub returns : goal.returns
returns c =
    let a = c.args in
    sym (bad-parts a.ids.now a.places ∙ rw (le-ltb 5 (length a.ids.now) c.if-count-gt5.false, ← c.all_differ-repeated.ensures))
