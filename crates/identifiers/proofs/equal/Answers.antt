-- `identifiers::equal` meets its contract: identifiers of unequal length differ.
use Rattle.lists.proofs.Prelude.{sym, ◌∙◌, ne_eqb, same_length}
use Rattle.identifiers.proofs.equal.Goals as goal

pub returns-else-a-b : goal.returns-else-a-b
returns-else-a-b c = ne_eqb _ _ c.if-a-b.false ∙ sym (same_length _ _ c.if-a-b.false)
