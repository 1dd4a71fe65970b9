-- `terms::opening::open_run` meets its contract: in an ordered list the postings of an identifier lie between two lower bounds.
use Rattle.lists.proofs.Prelude.{map, ◌≡◌, ap, ◌∙◌, arith, length, unmapped, rules}
use Rattle.words.specs.Words.{words}
use Rattle.postings.specs.Pack.{posted}
use Rattle.terms.proofs.Runs.{run_lies, run-lies-in, run-under}
use Rattle.terms.proofs.opening.open_run.Goals as goal

pub overflow_sub-end : goal.overflow_sub-end
overflow_sub-end c =
    let len : length c.args.b.postings ≡ 128 = search (unmapped, rules) in
    let r = run_lies c.args.id c.args.b.used c.args.b.postings (omega arith) c.requires.2 _ _ c.lower-at.ensures c.lower-end.ensures in
    omega (arith, r.0)

pub put-requires : goal.put-requires
put-requires c =
    let len : length c.args.b.postings ≡ 128 = search (unmapped, rules) in
    (c.requires.0, run-lies-in (words c.args.card.now) c.args.run.now c.args.b c.args.id c.requires.4 (omega arith) c.requires.1 c.requires.2 c.requires.3 _ _ c.lower-at.ensures c.lower-end.ensures)

pub returns : goal.returns
returns c =
    let len : length c.args.b.postings ≡ 128 = search (unmapped, rules) in
    let p = c.put.ensures in
    (p.0, ap (map (posted c.args.id)) p.1 ∙ run-under (words c.args.card.now) c.args.run.now c.args.b c.args.id c.requires.4 (omega arith) c.requires.1 c.requires.2 c.requires.3 _ _ c.lower-at.ensures c.lower-end.ensures)
