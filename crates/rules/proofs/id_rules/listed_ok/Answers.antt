use Rattle.lists.proofs.Prelude.{and_assoc, le-leb, lt-leb}
use Rattle.state.specs.Rules.{listed_rule}
use Rattle.rules.proofs.id_rules.listed_ok.Goals as goal

pub returns-then-l-gt64 : goal.returns-then-l-gt64
unfolding listed_rule
returns-then-l-gt64 c = rw (lt-leb _ _ c.if-l-gt64.true)

pub returns : goal.returns
unfolding listed_rule
returns c = rw (le-leb _ _ c.if-l-gt64.false, c.places_ok.ensures, and_assoc, and_assoc)
