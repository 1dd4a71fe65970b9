-- `inputs::is_zero` meets its contract: the bits of a count are 0 where it is 0.
use borrow.Author.Rules.{rules}
use mir.Syntax.{w16}
use mir.Val.{SFits}
use Rattle.postings.proofs.Counts.{zero_bits}
use Rattle.inputs.proofs.is_zero.Goals as goal

pub returns : goal.returns
returns c = let f : SFits w16 c.args.p.count = search rules in zero_bits _ f
