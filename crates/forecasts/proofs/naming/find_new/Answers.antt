use Rattle.lists.proofs.Prelude.{sym, ap, ◌∙◌, add-one, arith, same}
use Rattle.identifiers.specs.Names.{Name}
use Rattle.forecasts.proofs.Names.{place_kept, place_at, new-step, new-end}
use Rattle.forecasts.proofs.naming.find_new.Goals as goal

pub overflow_cast-places : goal.overflow_cast-places
overflow_cast-places c = omega (arith, c.shared_slice_known-in-loop-i-1.given c.loop-i.i)

pub identifier_at-other-requires : goal.identifier_at-other-requires
identifier_at-other-requires c =
    place_kept c.args.plan.now _
    (place_at c.args.plan.now c.args.places.now c.args.known c.loop-i.i c.requires.0 (omega arith) c.requires.1)

pub returns-then-equal : goal.returns-then-equal
returns-then-equal c =
    let n = new-step c.args.plan.now c.args.places.now c.args.known c.loop-i.i c.requires.0 (omega arith) c.args.id.now in
    let e = ap (λ (m : Name). same m c.args.id.now) (sym c.identifier_at-other.ensures) ∙ sym c.equal.ensures ∙ c.if-equal.true in
    omega (arith, c.loop-i.invariant, rw e at n)

pub loop-i-preserved : goal.loop-i-preserved
loop-i-preserved c =
    let n = new-step c.args.plan.now c.args.places.now c.args.known c.loop-i.i c.requires.0 (omega arith) c.args.id.now in
    let e = ap (λ (m : Name). same m c.args.id.now) (sym c.identifier_at-other.ensures) ∙ sym c.equal.ensures ∙ c.if-equal.false in
    rw (add-one c.loop-i.i) (omega (arith, c.loop-i.invariant, rw e at n))

pub returns : goal.returns
returns c =
    omega (arith, c.loop-i.invariant, new-end c.args.plan.now c.args.places.now c.args.known c.loop-i.i c.args.id.now c.requires.0 (omega arith))

pub loop-i-init : goal.loop-i-init
loop-i-init c = omega arith
