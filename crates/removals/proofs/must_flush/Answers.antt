use Rattle.lists.proofs.Prelude.{◌≡◌, arith, length, length-take-le, unmapped, rules}
use Rattle.removals.proofs.must_flush.Goals as goal

pub returns : goal.returns
returns c =
    let b = c.args.b in
    let t = c.args.c in
    let long : length b.postings ≡ 128 = search (unmapped, rules) in
    let wide : length t.postings ≡ 64 = search (unmapped, rules) in
    rw (length-take-le b.used b.postings (omega arith), length-take-le t.used t.postings (omega arith))
