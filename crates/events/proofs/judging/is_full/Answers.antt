use Rattle.lists.proofs.Prelude.{◌≡◌, arith, length, length-take-le, rules}
use Rattle.events.proofs.judging.is_full.Goals as goal

pub returns : goal.returns
returns c =
    let l = c.args.l in
    let long : length l.ids ≡ 64 = search rules in
    rw (c.is_listed.ensures, length-take-le l.used l.ids (omega (arith, c.requires)))
