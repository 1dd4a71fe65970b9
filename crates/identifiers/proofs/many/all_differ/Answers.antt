use Rattle.lists.proofs.Prelude.{arith}
use Rattle.identifiers.proofs.Lent.{differ-stopped, differ-on, differ-end}
use Rattle.identifiers.proofs.many.all_differ.Goals as goal

pub returns-then-repeats : goal.returns-then-repeats
returns-then-repeats c =
    differ-stopped c.args.ids.now c.loop-i.i c.loop-i.invariant (omega arith) _ c.repeats.ensures c.if-repeats.true

pub loop-i-preserved : goal.loop-i-preserved
loop-i-preserved c =
    differ-on c.args.ids.now c.loop-i.i c.loop-i.invariant (omega arith) _ c.repeats.ensures c.if-repeats.false

pub returns : goal.returns
returns c = differ-end c.args.ids.now c.loop-i.i c.loop-i.invariant (omega arith)
