use Rattle.lists.proofs.Prelude.{List, ap, ◌∙◌, ◌+◌, set}
use Rattle.lists.proofs.Shifts.{raised_copied}
use Rattle.answers.specs.declared.Hit.{Hit}
use Rattle.ranking.proofs.Tops.{made, insert-made}
use Rattle.ranking.proofs.insert_hit.Goals as goal

pub returns : goal.returns
returns c =
    let t = c.args.t in
    let k = c.args.k in
    let last = c.args.last in
    let p = c.requires in
    ap (λ (xs : List Hit). made (last + 1) (set xs k c.args.g)) (c.copy_within.ensures.after ∙ raised_copied last k t.hits p.1)
    ∙ insert-made t p.0 c.args.g k last p.1 p.2 p.3 p.4
