-- `rules::merge_ok` meets its contract: a level is due where the due levels have a first.
use Rattle.lists.proofs.Prelude.{not, List, [], ◌∷◌, ◌≡◌, refl, ap, ◌∙◌, ℕ, empty, eq-eqb, ne_eqb}
use Rattle.std.proofs.Common.{slice_get, is_some}
use Rattle.state.specs.Views.{finished}
use Rattle.state.specs.Levels.{due_levels}
use Rattle.state.specs.Rules.{merge_rule}
use Rattle.rules.proofs.merge_ok.Goals as goal

pub returns-then-m-eq0 : goal.returns-then-m-eq0
unfolding merge_rule
returns-then-m-eq0 c = rw (eq-eqb _ _ c.if-m-eq0.true)

-- a list has a first where it is not empty
some-first : (l : List ℕ) → is_some (slice_get l 0) ≡ not (empty l)
some-first [] = refl
some-first (x ∷ l) = refl

pub returns : goal.returns
unfolding merge_rule
returns c = c.is_some.ensures ∙ ap is_some c.due_level.ensures ∙ some-first (due_levels (λ q. q.level) (finished c.args.p)) ∙ rw (ne_eqb _ _ c.if-m-eq0.false)
