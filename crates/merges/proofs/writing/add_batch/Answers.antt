-- `merges::writing::add_batch` meets its contract.
use Rattle.lists.proofs.Prelude.{◌≡◌, arith, rules, length, length-take-le, unmapped}
use Rattle.merges.proofs.writing.add_batch.Goals as goal

pub write_postings-requires : goal.write_postings-requires
write_postings-requires c =
    let b = c.args.b in
    let len : length b.pairs ≡ 16 = search (unmapped, rules) in
    (c.requires.0, c.requires.1, c.requires.3, omega (arith, length-take-le b.used b.pairs (omega (arith, c.requires.3)), c.requires.4), c.requires.5, c.requires.6)
