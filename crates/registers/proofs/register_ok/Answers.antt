-- `registers::register_ok` meets its contract: the rule is that of a formed register whose identifiers differ.
use Rattle.lists.proofs.Prelude.{true, false, ◌≡◌, sym, ◌∙◌, not-true, not-false}
use Rattle.identifiers.specs.Formed.{formed}
use Rattle.identifiers.proofs.Entries.{rule-parts}
use Rattle.registers.proofs.register_ok.Goals as goal

pub returns-then-not-formed : goal.returns-then-not-formed
returns-then-not-formed c =
    let r = c.args.register.now in
    let f : formed r ≡ false = sym c.formed.ensures ∙ not-true _ c.if-not-formed.true-raw in
    sym (rule-parts r ∙ rw f)

pub all_different-requires : goal.all_different-requires
all_different-requires c = (sym c.formed.ensures ∙ not-false _ c.if-not-formed.false-raw, c.requires)

pub returns : goal.returns
returns c =
    let r = c.args.register.now in
    let f : formed r ≡ true = sym c.formed.ensures ∙ not-false _ c.if-not-formed.false-raw in
    c.all_different.ensures ∙ sym (rule-parts r ∙ rw f)
