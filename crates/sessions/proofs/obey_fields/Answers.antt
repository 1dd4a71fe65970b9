-- `sessions::obey_fields` meets its contract: by cases of the order.
use Rattle.lists.proofs.Prelude.{ap, ◌∙◌}
use Rattle.std.specs.Prelude.{Some}
use Rattle.sessions.proofs.Carried.{obeys-as}
use Rattle.sessions.proofs.Fields.{reached, called, called-query}
use Rattle.sessions.proofs.obey_fields.Goals as goal

pub changed-requires : goal.changed-requires
changed-requires c = (reached c.args.parts.now c.order_of.ensures (c.in-Some.is ∙ ap Some c.in-Change.is), c.requires)

pub slice_bounds-asked-count : goal.slice_bounds-asked-count
slice_bounds-asked-count c = reached c.args.parts.now c.order_of.ensures (c.in-Some.is ∙ ap Some c.in-Query.is)

pub slice_bounds-asked-start : goal.slice_bounds-asked-start
slice_bounds-asked-start c = reached c.args.parts.now c.order_of.ensures (c.in-Some.is ∙ ap Some c.in-Query.is)

pub returns-in-Open : goal.returns-in-Open
returns-in-Open c = obeys-as (called c.args.parts.now c.order_of.ensures (c.in-Some.is ∙ ap Some c.in-Open.is)) (c.opened.ensures _ _)

pub returns-in-Change : goal.returns-in-Change
returns-in-Change c = obeys-as (called c.args.parts.now c.order_of.ensures (c.in-Some.is ∙ ap Some c.in-Change.is)) c.changed.ensures

pub returns-in-Query : goal.returns-in-Query
returns-in-Query c = obeys-as (called-query c.args.parts.now _ c.order_of.ensures (c.in-Some.is ∙ ap Some c.in-Query.is)) c.asked.ensures

pub returns-in_default : goal.returns-in_default
returns-in_default c = obeys-as (called c.args.parts.now c.order_of.ensures c.in_default.is) (c.unknown.ensures _ _)
