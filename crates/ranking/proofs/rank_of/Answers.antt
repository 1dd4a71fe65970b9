use Rattle.lists.proofs.Prelude.{sym, ◌∙◌, arith}
use Rattle.ranking.proofs.Tops.{rank-here, rank-on, rank-end}
use Rattle.ranking.proofs.rank_of.Goals as goal

pub returns-then-outranks : goal.returns-then-outranks
returns-then-outranks c =
    let t = c.args.t in
    let r = rank-here c.args.g t.hits t.used c.loop-i.i (omega arith) (omega arith) (sym c.outranks.ensures ∙ c.if-outranks.true) in
    omega arith

pub loop-i-preserved : goal.loop-i-preserved
loop-i-preserved c =
    let t = c.args.t in
    let r = rank-on c.args.g t.hits t.used c.loop-i.i (omega arith) (omega arith) (sym c.outranks.ensures ∙ c.if-outranks.false) in
    omega arith

pub returns : goal.returns
returns c =
    let r = rank-end c.args.g c.args.t.hits c.args.t.used c.loop-i.i (omega arith) (omega arith) in
    omega arith
