use Rattle.buffer.proofs.Canonical.{replace-made}
use Rattle.buffer.proofs.replace.Goals as goal

pub returns : goal.returns
returns c = replace-made c.args.b c.requires.0 c.args.k c.args.p c.requires.1
