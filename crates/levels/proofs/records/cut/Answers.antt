use Rattle.lists.proofs.Prelude.{◌≡◌, arith, length, rules, unmapped}
use Rattle.state.specs.Views.{finished, no_partition}
use Rattle.lists.proofs.Padding.{cut_padded, length_without}
use Rattle.state.proofs.Rows.{used-fits, used-form, records-form, same_parts}
use Rattle.levels.proofs.records.cut.Goals as goal

pub returns : goal.returns
returns c =
    let p = c.args.p in
    let l = finished p in
    let k = used-form p c.requires.1 in
    let len : length p.records ≡ 51 = search (unmapped, rules) in
    let fits = used-fits p c.requires.1 len in
    let w = length_without no_partition 51 l c.args.at c.args.count (omega arith) (omega arith) in
    let h = cut_padded no_partition 51 l c.args.at c.args.count (omega arith) (omega arith) p.records c.copy_within.new.self p.used (records-form p c.requires.1) k c.copy_within.ensures.after in
    same_parts (omega arith) (rw (c.fill.ensures.after (λ y e. search rules)) h)
