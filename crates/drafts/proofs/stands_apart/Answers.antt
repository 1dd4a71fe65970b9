-- `drafts::stands_apart` meets its contract.
use Rattle.lists.proofs.Prelude.{Bool, ◌&&◌, ◌++◌, sym, ap, ◌∙◌}
use Rattle.words.specs.Words.{words}
use Rattle.state.specs.Views.{finished}
use Rattle.card.specs.Chains.{chain}
use Rattle.card.specs.Marks.{unmarked}
use Rattle.card.proofs.Marking.{unmarked-append, unmarked-stop, unmarked-first}
use Rattle.partitions.specs.Formed.{chains_of}
use Rattle.drafts.proofs.stands_apart.Goals as goal

pub returns-in_default : goal.returns-in_default
returns-in_default c =
    let W = words c.args.card.now in
    let none = c.no_marks in
    let a = chain W c.args.first c.args.n in
    let b = chains_of W (finished c.args.ps) in
    sym (sym (unmarked-first none.result (a ++ b) none.ensures) ∙ unmarked-stop none.result a b c.in_default.ensures)

pub returns : goal.returns
returns c =
    let W = words c.args.card.now in
    let none = c.no_marks in
    let k = c.in-Some.k in
    let j = c.in-Some.ensures in
    let a = chain W c.args.first c.args.n in
    let b = chains_of W (finished c.args.ps) in
    c.apart_from.ensures
    ∙ sym
    (sym (unmarked-first none.result (a ++ b) none.ensures) ∙ unmarked-append none.result k a b j.marks
    ∙ ap (λ (t : Bool). t && unmarked k b) j.apart)
