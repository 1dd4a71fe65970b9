use Rattle.lists.proofs.Prelude.{◌≡◌, arith, rules, unmapped}
use Rattle.texts.proofs.Hits.{list-none, list-more}
use Rattle.texts.proofs.writing.put_hits.Goals as goal

pub loop-i-init : goal.loop-i-init
loop-i-init c = list-none _ _ _ _ c.requires.0 (search (unmapped, rules)) c.requires.1

pub put_pair-m-requires : goal.put_pair-m-requires
put_pair-m-requires c =
    let i = c.loop-i.invariant in
    omega (arith, i.few, i.most, i.room, i.within, i.wrote.long, c.loop-i-test.true)

pub loop-i-preserved : goal.loop-i-preserved
loop-i-preserved c =
    let p = c.put_pair-m in
    list-more c.loop-i.invariant (omega arith) p.ensures.0 p.ensures.1

pub returns : goal.returns
returns c =
    let i = c.loop-i.invariant in
    let e : c.loop-i.i ≡ c.args.used = omega (arith, i.within) in
    (rw e at i.wrote, omega (arith, i.most))
