-- `texts::writing::put_number` meets its contract.
use Rattle.lists.proofs.Prelude.{◌∙◌, arith}
use Rattle.texts.proofs.Decimals.{fewest-decimal, few-digits}
use Rattle.texts.proofs.Appending.{wrote_as}
use Rattle.texts.proofs.writing.put_number.Goals as goal

pub put_bytes-requires : goal.put_bytes-requires
put_bytes-requires c =
    let d = c.decimal-k in
    omega (arith, few-digits d.result c.args.value d.ensures.len (omega arith), d.ensures.in_bounds, c.requires)

pub returns : goal.returns
returns c =
    let d = c.decimal-k in
    let p = c.put_bytes in (
      wrote_as (d.ensures.digits ∙ fewest-decimal d.result c.args.value d.ensures.len) p.ensures,
      omega (arith, few-digits d.result c.args.value d.ensures.len (omega arith), d.ensures.in_bounds, p.ensures.count),
    )
