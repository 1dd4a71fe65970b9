use Rattle.lists.proofs.Prelude.{◌≡◌, arith, length, length-take-le, rules, eq-eqb, ne_eqb, unmapped}
use Rattle.events.proofs.counting.must_flush.Goals as goal

pub returns-then-b-ne128 : goal.returns-then-b-ne128
returns-then-b-ne128 c =
    let b = c.args.b in
    let long : length b.postings ≡ 128 = search (unmapped, rules) in
    rw (length-take-le b.used b.postings (omega (arith, c.requires)), ne_eqb b.used 128 c.if-b-ne128.true)

pub returns : goal.returns
returns c =
    let b = c.args.b in
    let long : length b.postings ≡ 128 = search (unmapped, rules) in
    rw (length-take-le b.used b.postings (omega (arith, c.requires)), eq-eqb b.used 128 c.if-b-ne128.false, c.holds_pair.ensures)
