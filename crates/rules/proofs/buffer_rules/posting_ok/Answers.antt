use borrow.Author.Rules.{rules}
use mir.Facts.{to_z-of_z}
use mir.Syntax.{w16}
use mir.Val.{SFits}
use Rattle.state.specs.Rules.{posting_rule}
use Rattle.postings.proofs.Counts.{zero_bits, small_size}
use Rattle.rules.proofs.buffer_rules.posting_ok.Goals as goal

pub returns : goal.returns
unfolding posting_rule
returns c =
    let f : SFits w16 c.args.p.count = search rules in
    rw (← c.above-events.ensures, ← zero_bits _ f, ← small_size _ f, to_z-of_z f)
