use Rattle.lists.proofs.Prelude.{true, false, List, [], ◌≡◌, sym, ap, ◌∙◌, zero, suc, ◌<◌, add-one, arith, length, get_or, drop, drop_of_length-le, same}
use Rattle.identifiers.specs.Names.{Name, number_of}
use Rattle.identifiers.specs.Register.{names}
use Rattle.identifiers.proofs.Names.{number_step}
use Rattle.identifiers.proofs.Entries.{rule-formed}
use Rattle.identifiers.proofs.find.Goals as goal

pub count_used-used-requires : goal.count_used-used-requires
count_used-used-requires c = rule-formed c.args.register.now c.requires

pub name_at-requires : goal.name_at-requires
name_at-requires c =
    (rule-formed c.args.register.now c.requires, omega (arith, c.count_used-used.ensures))

pub returns-then-equal : goal.returns-then-equal
returns-then-equal c =
    let ms = names c.args.register.now in
    let id = c.args.id.now in
    let i = c.loop-i.i in
    let h : i < length ms = omega (arith, c.count_used-used.ensures) in
    let e : same (get_or ms i []) id ≡ true = ap (λ (m : Name). same m id) (sym c.name_at.ensures) ∙ sym c.equal.ensures ∙ c.if-equal.true in
    let t : number_of (drop i ms) id ≡ zero = number_step ms id i h ∙ rw e in
    omega (arith, c.loop-i.invariant, t)

pub loop-i-preserved : goal.loop-i-preserved
loop-i-preserved c =
    let ms = names c.args.register.now in
    let id = c.args.id.now in
    let i = c.loop-i.i in
    let h : i < length ms = omega (arith, c.count_used-used.ensures) in
    let e : same (get_or ms i []) id ≡ false = ap (λ (m : Name). same m id) (sym c.name_at.ensures) ∙ sym c.equal.ensures ∙ c.if-equal.false in
    let t : number_of (drop i ms) id ≡ suc (number_of (drop (suc i) ms) id) = number_step ms id i h ∙ rw e in
    rw (add-one i) (omega (arith, c.loop-i.invariant, t))

pub returns : goal.returns
returns c =
    let ms = names c.args.register.now in
    let d : drop c.loop-i.i ms ≡ [] = drop_of_length-le ms {i = c.loop-i.i} (omega (arith, c.count_used-used.ensures)) in
    omega (arith, c.loop-i.invariant, ap (λ (ns : List Name). number_of ns c.args.id.now) d)
