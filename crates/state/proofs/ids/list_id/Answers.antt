use Rattle.state.proofs.Rows.{noted}
use Rattle.state.proofs.ids.list_id.Goals as goal

pub returns : goal.returns
returns c = noted c.args.l c.args.id c.requires.0 c.requires.1
