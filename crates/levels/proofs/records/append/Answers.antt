use Rattle.state.proofs.Rows.{added}
use Rattle.levels.proofs.records.append.Goals as goal

pub returns : goal.returns
returns c = added c.args.p c.args.q c.requires.0 c.requires.1
