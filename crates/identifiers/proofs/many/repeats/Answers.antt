use Rattle.lists.proofs.Prelude.{sym, ◌∙◌, rules, same, take, get_or, any-map, map-take}
use borrow.Author.Tests.{tests}
use Rattle.std.proofs.lemmas.Iterator.{YieldsList-from_slice}
use Rattle.std.proofs.lemmas.Iterator.Search.{any_from_yields_List}
use Rattle.identifiers.proofs.Lent.{nothing, lent_at}
use Rattle.identifiers.proofs.many.repeats.Goals as goal

pub returns : goal.returns
returns c =
    let l = c.args.ids.now in
    let n = (get_or l c.args.i nothing).now in
    any_from_yields_List (λ x. same x.now n) _ _ c.any.result c.any.ensures.ran (YieldsList-from_slice (take c.args.i l) cc) (λ x b q k. search (rules, tests))
    ∙ rw (lent_at l c.args.i, ← map-take (λ x. x.now) c.args.i l) (sym (any-map (λ m. same m n) (λ x. x.now) (take c.args.i l)))
