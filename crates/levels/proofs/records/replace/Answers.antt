use Rattle.lists.proofs.Prelude.{ap, ◌∙◌, ◌+◌, ◌-◌, arith}
use Rattle.state.specs.Views.{finished, partitions_of}
use Rattle.lists.proofs.Padding.{without, without-rest}
use Rattle.state.proofs.Rows.{used-form, finished-set, form-set}
use Rattle.levels.proofs.records.replace.Goals as goal

pub cut-requires : goal.cut-requires
cut-requires c =
    let s = c.args in
    (omega arith, form-set s.p s.at s.q (omega arith) c.requires.2)

pub returns : goal.returns
returns c =
    let s = c.args in
    let k = used-form s.p c.requires.2 in
    let now = finished-set s.p s.at s.q (omega arith) c.requires.2 in
    c.cut.ensures ∙ ap partitions_of (ap (without (s.at + 1) (s.count - 1)) now ∙ without-rest (finished s.p) s.at s.count s.q (omega arith) (omega arith))
