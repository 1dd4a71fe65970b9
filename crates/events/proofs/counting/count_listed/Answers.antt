use Rattle.lists.proofs.Prelude.{true, false, ◌≡◌, sym, ◌∙◌, arith, length, length-take-le, rules, elem}
use Rattle.state.specs.Views.{listed}
use Rattle.events.proofs.counting.count_listed.Goals as goal

pub returns-then-is_listed : goal.returns-then-is_listed
returns-then-is_listed c =
    let l = c.args.l in
    let long : length l.ids ≡ 64 = search rules in
    let e : elem c.args.i (listed l) ≡ true = sym c.is_listed.ensures ∙ c.if-is_listed.true in
    rw e (c.requires.1 long)

pub list_id-requires : goal.list_id-requires
list_id-requires c =
    let l = c.args.l in
    let long : length l.ids ≡ 64 = search rules in
    let e : elem c.args.i (listed l) ≡ false = sym c.is_listed.ensures ∙ c.if-is_listed.false in
    (omega (arith, c.requires.2 e, length-take-le l.used l.ids (omega (arith, c.requires.0))), c.requires.1 long)

pub returns : goal.returns
returns c =
    let e : elem c.args.i (listed c.args.l) ≡ false = sym c.is_listed.ensures ∙ c.if-is_listed.false in
    rw e c.list_id.ensures
