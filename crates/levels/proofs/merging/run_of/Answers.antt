-- `levels::merging::run_of` meets its contract.
use Rattle.lists.proofs.Prelude.{◌≡◌, sym, ap, ◌∙◌, ◌+◌, arith, length, take, drop, length-take-le, rules, unmapped, take-drop}
use Rattle.state.specs.Views.{finished, partitions_of}
use Rattle.levels.proofs.Choosing.{finished-of, front_cut}
use Rattle.levels.proofs.merging.run_of.Goals as goal

pub returns : goal.returns
returns c =
    let p = c.args.p in
    let end = c.args.at + c.args.count in
    let len : length p.records ≡ 51 = search (unmapped, rules) in
    let l : length (finished p) ≡ p.used = length-take-le p.used p.records (omega (arith, c.requires.0)) in
    let e = c.cut-front.ensures ∙ ap partitions_of (front_cut (finished p) end p.used l) in
    let f = ap finished e ∙ finished-of (take end (finished p)) in
    c.cut.ensures ∙ ap (λ x. partitions_of (drop c.args.at x)) f ∙ ap partitions_of (sym (take-drop c.args.at c.args.count (finished p)))
