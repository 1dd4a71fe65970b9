-- `levels::merging::replaced_by` meets its contract.
use Rattle.lists.proofs.Prelude.{◌≡◌, arith, length, length-take-le, rules, unmapped}
use Rattle.state.specs.Views.{finished}
use Rattle.levels.proofs.Choosing.{due-is, due-within, due-some}
use Rattle.levels.proofs.merging.replaced_by.Goals as goal

pub replace-requires : goal.replace-requires
replace-requires c =
    let d = due-is (finished c.args.p) c.in-Some.v c.in-Some.ensures in
    let len : length c.args.p.records ≡ 51 = search (unmapped, rules) in
    let l : length (finished c.args.p) ≡ c.args.p.used = length-take-le c.args.p.used c.args.p.records (omega (arith, c.requires.0)) in
    (rw c.due_at-count.ensures (due-some c.in-Some.v), omega (arith, due-within (finished c.args.p) c.in-Some.v d, c.due_at-count.ensures, c.place_of-at.ensures), c.requires.1 len)

pub cut-requires : goal.cut-requires
cut-requires c =
    let d = due-is (finished c.args.p) c.in-Some.v c.in-Some.ensures in
    let len : length c.args.p.records ≡ 51 = search (unmapped, rules) in
    let l : length (finished c.args.p) ≡ c.args.p.used = length-take-le c.args.p.used c.args.p.records (omega (arith, c.requires.0)) in
    (omega (arith, due-within (finished c.args.p) c.in-Some.v d, due-some c.in-Some.v, c.due_at-count.ensures, c.place_of-at.ensures), c.requires.1 len)
