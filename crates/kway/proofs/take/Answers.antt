use mir.Facts.{to_z-of_z}
use mir.Syntax.{w16}
use mir.Val.{SFits}
use Rattle.lists.proofs.Prelude.{arith, rules}
use Rattle.kway.proofs.Parts.{all-at, ends, width}
use Rattle.kway.proofs.Turns.{turn-none, turn_more}
use Rattle.kway.proofs.take.Goals as goal

pub loop-i-init : goal.loop-i-init
loop-i-init g c = turn-none _ _ _ _ _

pub took-t-requires : goal.took-t-requires
took-t-requires g c =
    let s = g.S.Source in
    let i = c.loop-i.i in
    (rw (c.width.ensures, c.width-in-loop-i.ensures, width s.WIDTH i, c.loop-i.invariant.heads.later i (omega arith)) (all-at (s.kept c.args.source.now) s.WIDTH c.args.n c.args.heads.now c.requires.3 i c.loop-i-test.true), c.requires.2)

pub loop-i-preserved : goal.loop-i-preserved
loop-i-preserved g c =
    let s = g.S.Source in
    let i = c.loop-i.i in
    let t = c.took-t in
    let f : SFits w16 t.result.count = search rules in
    let n = rw (c.width.ensures, c.width-in-loop-i.ensures, width s.WIDTH i) at t.ensures in
    let e = ends s.WIDTH i c.args.n c.loop-i-test.true in
    rw (to_z-of_z (record { sfits = c.added-sum.type_inv }), c.added-sum.ensures, to_z-of_z f, c.max-next.ensures, c.width.ensures, c.width-in-loop-i.ensures)
    (turn_more (s.view c.args.source.now) (s.kept c.args.source.now) s.WIDTH c.args.key c.args.heads.now i c.loop-i.heads _ _ _ c.loop-i.invariant (omega (arith, c.requires.0))
    t.new.head t.result.count t.result.fine t.result.reach (g.met.S.Source.laws.long _ _ n.0) n.0 n.1 n.2 n.3 n.4 (omega (arith, f.sfits)))
