use Rattle.lists.proofs.Prelude.{ap, sym, ◌∙◌, ◌<◌, ◌≤◌, arith, length, length-take}
use Rattle.state.specs.declared.Partitions.{Partitions}
use Rattle.state.specs.Views.{finished, no_partition}
use Rattle.stretches.specs.Reached.{reaches}
use Rattle.stretches.proofs.Finding.{found-few, found-more, found-same}
use Rattle.stretches.proofs.reached.Goals as goal
use Rattle.stretches.proofs.reached.Goals.{then-reaches, else-reaches, After-reaches}

-- those found before are fewer than 51
room : (c : After-reaches) → c.loop-p.found.used < 51
room c =
    let l = finished c.args.ps in
    let h : c.loop-p.p-index < length l = rw c.finished-p-items.ensures at c.loop-p-test.true in
    let few : length l ≤ 51 = omega (arith, length-take c.args.ps.used c.args.ps.records, c.requires) in
    omega (arith, found-few (reaches c.args.t) l c.loop-p.p-index no_partition few h, ap (λ (x : Partitions). x.used) c.loop-p.invariant)

pub overflow_cast-found : goal.overflow_cast-found
overflow_cast-found c = omega (arith, room (goal.at.overflow_cast-found c).After-reaches)

pub offset_bounds-found-found : goal.offset_bounds-found-found
offset_bounds-found-found c = omega (arith, room (goal.at.offset_bounds-found-found c).After-reaches)

pub bounds-found-found : goal.bounds-found-found
bounds-found-found c = room (goal.at.bounds-found-found c).After-reaches

pub overflow_add-found : goal.overflow_add-found
overflow_add-found c = omega (arith, room (goal.at.overflow_add-found c).After-reaches)

pub loop-p-preserved : goal.loop-p-preserved
loop-p-preserved c =
    let l = finished c.args.ps in
    let same = c.finished-p-items.ensures in
    let h : c.loop-p.p-index < length l = rw same at c.loop-p-test.true in
    let few : length l ≤ 51 = omega (arith, length-take c.args.ps.used c.args.ps.records, c.requires) in
    let e = rw same at c.reaches.ensures in
    elim c.if-reaches.branch [
      | then-reaches w ↦ rw same at w.found-is ∙ found-more (reaches c.args.t) l c.loop-p.p-index no_partition few h c.loop-p.found c.loop-p.invariant (sym e ∙ w.if-reaches.true)
      | else-reaches w ↦ w.found-is ∙ c.loop-p.invariant ∙ found-same (reaches c.args.t) l c.loop-p.p-index no_partition few h (sym e ∙ w.if-reaches.false)
    ]
