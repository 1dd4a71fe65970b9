use Rattle.lists.proofs.Prelude.{eqb, leb, drop, rules}
use borrow.Author.Tests.{tests}
use Rattle.std.proofs.lemmas.Iterator.{YieldsList-from_slice}
use Rattle.std.proofs.lemmas.Iterator.Search.{all_from_yields_List}
use Rattle.std.proofs.lemmas.Slice.{between_to_end}
use Rattle.state.specs.Views.{listed}
use Rattle.rules.proofs.id_rules.places_ok.Goals as goal

pub returns : goal.returns
returns c =
    let l = c.args.l in
    let a = all_from_yields_List (λ i. leb i 1023) _ _ c.all.result c.all.ensures.ran (YieldsList-from_slice (listed l) cc) (λ x b q k. search (rules, tests)) in
    let b = all_from_yields_List (λ i. eqb i 0) _ _ c.all-2.result c.all-2.ensures.ran (YieldsList-from_slice (drop l.used l.ids) (search (rules, between_to_end))) (λ x b q k. search (rules, tests)) in
    rw (a, b, c.all_differ.ensures)
