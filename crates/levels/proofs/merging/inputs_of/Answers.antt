-- `levels::merging::inputs_of` meets its contract.
use Rattle.lists.proofs.Prelude.{◌≡◌, arith, length, length-take-le, rules, unmapped}
use Rattle.state.specs.Views.{finished}
use Rattle.levels.proofs.Choosing.{due-is, due-within}
use Rattle.levels.proofs.merging.inputs_of.Goals as goal

pub run_of-requires : goal.run_of-requires
run_of-requires c =
    let d = due-is (finished c.args.p) c.in-Some.v c.in-Some.ensures in
    let len : length c.args.p.records ≡ 51 = search (unmapped, rules) in
    let l : length (finished c.args.p) ≡ c.args.p.used = length-take-le c.args.p.used c.args.p.records (omega (arith, c.requires.0)) in
    (c.requires.0, rw (c.due_at.ensures, c.place_of.ensures) (omega (arith, due-within (finished c.args.p) c.in-Some.v d)), c.requires.1 len)
