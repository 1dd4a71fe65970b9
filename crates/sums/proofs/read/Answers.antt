-- `sums::read` meets its contract.
use Rattle.lists.proofs.Prelude.{not-true, not-false}
use Rattle.words.specs.Words.{words}
use Rattle.sums.proofs.Alone.{alone-tidy, alone-read, alone-bad}
use Rattle.sums.proofs.read.Goals as goal

pub returns-then-not-read_all : goal.returns-then-not-read_all
returns-then-not-read_all c =
    let r = c.read_all in
    alone-bad (words c.args.card.now) c.args.s c.args.window r.result _ r.ensures (not-true _ c.if-not-read_all.true-raw)

pub counts_of-requires : goal.counts_of-requires
counts_of-requires c =
    let r = c.read_all in
    alone-tidy (words c.args.card.now) c.args.s c.args.window r.result _ r.ensures

pub returns : goal.returns
returns c =
    let r = c.read_all in
    alone-read (words c.args.card.now) c.args.s c.args.window r.result _ r.ensures (not-false _ c.if-not-read_all.false-raw) c.counts_of.result c.counts_of.ensures.0 c.counts_of.ensures.1
