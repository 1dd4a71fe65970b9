use mir.Syntax.{w16}
use mir.Val.{SFits}
use mir.Facts.{to_z-of_z}
use Rattle.lists.proofs.Prelude.{eq-eqb, ne_eqb, rules}
use Rattle.sums.proofs.count_under.Goals as goal

pub returns-then-f-top : goal.returns-then-f-top
returns-then-f-top c = rw (eq-eqb _ _ c.if-f-top.true) (let f : SFits w16 c.args.f.count = search rules in to_z-of_z f)

pub returns-else-f-top : goal.returns-else-f-top
returns-else-f-top c = rw (ne_eqb _ _ c.if-f-top.false)
