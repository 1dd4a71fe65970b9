use mathlib.Core.Path.{sym}
use Rattle.images.proofs.Fits.{wide-fifths}
use Rattle.images.proofs.is_wide.Goals as goal

pub returns : goal.returns
returns c = sym (wide-fifths c.args.at)
