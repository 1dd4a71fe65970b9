-- `spans::span_ok` meets its contract: the reader at the first posting has all of them to come.
use Rattle.lists.proofs.Prelude.{rules}
use Rattle.words.specs.Words.{words}
use Rattle.spans.proofs.Ahead.{span-reader}
use Rattle.spans.proofs.span_ok.Goals as goal

pub span_ahead-s-requires : goal.span_ahead-s-requires
span_ahead-s-requires c = search rules

pub returns : goal.returns
returns c =
    let r = c.open_reader-r in
    rw (c.span_ahead-s.ensures.0, c.span_ahead-s.ensures.1) (span-reader (words c.args.card.now) c.args.p r.result _ r.ensures.0)
