-- `heads::put` meets its contract: a spent list, and another.
use Rattle.lists.proofs.Prelude.{sym, ◌∙◌, arith}
use Rattle.words.specs.Words.{words}
use Rattle.heads.proofs.Heads.{comes-none, put-none, put_some}
use Rattle.heads.proofs.put.Goals as goal

pub returns-then-left-eq0 : goal.returns-then-left-eq0
returns-then-left-eq0 c =
    let W = words c.args.card.now in
    let R = c.args.run.now in
    let p = put-none W R c.args.head.now c.requires.0 in
    (p.0, p.1 ∙ sym (comes-none W R c.args.place c.args.left c.if-left-eq0.true), p.2)

pub word_of-word-requires : goal.word_of-word-requires
word_of-word-requires c = (omega (arith, c.if-left-eq0.false), c.requires.1)

pub returns : goal.returns
returns c =
    put_some (words c.args.card.now) c.args.run.now c.args.head.now c.requires.0 c.args.place c.args.left c.word_of-word.result (omega (arith, c.if-left-eq0.false)) c.word_of-word.ensures c.requires.1
