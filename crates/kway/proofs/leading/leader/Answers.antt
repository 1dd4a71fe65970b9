use Rattle.lists.proofs.Prelude.{sym, ◌∙◌, map, arith}
use Rattle.kway.specs.Parts.{part, parts}
use Rattle.kway.proofs.Parts.{first-of, all-at, ends, views-more}
use Rattle.kway.proofs.Leads.{found_none, found-other, found-this, length-views}
use Rattle.kway.proofs.leading.leader.Goals as goal
use Rattle.kway.proofs.leading.leader.Goals.{then-reach-top, else-reach-top}

pub loop-j-init : goal.loop-j-init
loop-j-init g c = found_none _ _ _

pub bounds-heads-width : goal.bounds-heads-width
bounds-heads-width g c =
    let s = g.S.Source in
    let e = ends s.WIDTH c.loop-j.j c.args.n c.loop-j-test.true in
    rw c.width.ensures (omega (arith, c.requires.0, g.met.S.Source.laws.some))

pub loop-j-preserved : goal.loop-j-preserved
loop-j-preserved g c =
    let s = g.S.Source in
    let laws = g.met.S.Source.laws in
    let S = c.args.source.now in
    let H = c.args.heads.now in
    let j = c.loop-j.j in
    let v = s.view S (part s.WIDTH j H) in
    let ls = map (s.view S) (parts s.WIDTH j H) in
    let r = sym (first-of s.WIDTH j H laws.some) ∙ laws.top S _ (all-at (s.kept S) s.WIDTH c.args.n H c.requires.2 j c.loop-j-test.true) in
    let l = length-views (s.view S) s.WIDTH j H in
    let f = c.loop-j.invariant in
    rw (views-more (s.view S) s.WIDTH j H)
    (elim c.if-reach-top.branch [
      | then-reach-top w ↦ rw (w.top-is, w.at-is, w.others-is, w.max-others.ensures, c.width.ensures, r) (found-other ls j l v c.loop-j.top c.loop-j.at c.loop-j.others f (omega (arith, r, rw c.width.ensures at w.if-reach-top.true)))
      | else-reach-top w ↦ rw (w.top-is, w.at-is, w.others-is, c.width.ensures, r) (found-this ls j l v c.loop-j.top c.loop-j.at c.loop-j.others f (omega (arith, r, rw c.width.ensures at w.if-reach-top.false)))
    ])
