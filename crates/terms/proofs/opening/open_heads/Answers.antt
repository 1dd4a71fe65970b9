-- `terms::opening::open_heads` meets its contract: the lists' heads, and the run's after them.
use Rattle.lists.proofs.Prelude.{◌≡◌, ◌∙◌, ◌+◌, ◌-◌, ◌*◌, arith}
use Rattle.words.specs.Words.{words}
use Rattle.terms.proofs.Puts.{opened}
use Rattle.terms.proofs.opening.open_heads.Goals as goal

pub returns : goal.returns
returns c =
    let l = c.open_lists in
    let r = c.open_run in
    let n = c.args.s.partitions.used in
    let w : 4 * n + 4 - 4 * n ≡ 4 = omega arith in
    opened (words c.args.card.now) c.args.run.now c.args.s c.args.id l.new.heads r.new.head (l.ensures.0 ∙ c.requires.1) l.ensures.1 l.ensures.2 r.ensures.0 r.ensures.1
