-- `scores::counting::weigh` meets its contract: four numbers are put in front of the heads.
use Rattle.lists.proofs.Prelude.{arith, set, length-drop, lt-length-set, take_rest}
use Rattle.words.specs.Words.{words}
use Rattle.scores.proofs.Serving.{weighed}
use Rattle.scores.proofs.counting.weigh.Goals as goal

pub leader-l-requires : goal.leader-l-requires
leader-l-requires c =
    let G = c.args.group.now in
    (rw (take_rest 4 G) (omega (arith, length-drop 4 G, c.requires.0)), omega (arith, c.requires.1), rw (take_rest 4 G) c.requires.2)

pub bounds-group-1 : goal.bounds-group-1
bounds-group-1 c =
    lt-length-set c.args.group.now 0 c.leader-l.result.top (omega (arith, c.requires.0))

pub bounds-group-2 : goal.bounds-group-2
bounds-group-2 c =
    let G = c.args.group.now in
    let l = c.leader-l.result in
    lt-length-set (set G 0 l.top) 1 c.idf_weight.result (lt-length-set G 0 l.top (omega (arith, c.requires.0)))

pub bounds-group-3 : goal.bounds-group-3
bounds-group-3 c =
    let G = c.args.group.now in
    let l = c.leader-l.result in
    let w = c.idf_weight.result in
    lt-length-set (set (set G 0 l.top) 1 w) 2 l.at (lt-length-set (set G 0 l.top) 1 w (lt-length-set G 0 l.top (omega (arith, c.requires.0))))

pub returns : goal.returns
returns c =
    let G = c.args.group.now in
    let l = rw (take_rest 4 G) at c.leader-l.ensures in
    weighed (words c.args.card.now) c.args.run.now c.args.m G c.requires.0 c.requires.2 _ _ _ _ c.args.n c.args.f l.0 c.idf_weight.ensures l.1
