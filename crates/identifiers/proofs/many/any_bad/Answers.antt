use Rattle.lists.proofs.Prelude.{sym, ◌∙◌, rules, any-map}
use borrow.Author.Tests.{tests}
use Rattle.std.proofs.lemmas.Iterator.{YieldsList-from_slice}
use Rattle.std.proofs.lemmas.Iterator.Search.{any_from_yields_List}
use Rattle.identifiers.specs.Names.{bad_length}
use Rattle.identifiers.proofs.many.any_bad.Goals as goal

pub returns : goal.returns
returns c =
    any_from_yields_List (λ x. bad_length x.now) _ _ c.any.result c.any.ensures.ran (YieldsList-from_slice c.args.ids.now cc) (λ x b q k. search (rules, tests))
    ∙ sym (any-map bad_length (λ x. x.now) c.args.ids.now)
