-- `texts::writing::put_found` meets its contract.
use Rattle.lists.proofs.Prelude.{◌≡◌, arith, length, take, length-take-le, unmapped, rules}
use Rattle.texts.specs.Texts.{answer_text}
use Rattle.texts.proofs.Appending.{wrote_then, says_all}
use Rattle.texts.proofs.writing.put_found.Goals as goal

pub returns : goal.returns
unfolding answer_text
returns c =
    let m : length c.args.hits ≡ 32 = search (unmapped, rules) in
    let e : length (take c.args.used c.args.hits) ≡ c.args.used = length-take-le _ _ (omega (arith, c.requires.1)) in
    let u = c.put_pair-n.ensures in
    let v = c.put_hits.ensures in
    rw e (says_all (wrote_then u.0 v.0) (omega (arith, u.1, v.1, c.requires.0, c.requires.1)))
