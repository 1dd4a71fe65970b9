-- `merges::writing::put_output` meets its contract.
use Rattle.lists.proofs.Prelude.{map, arith}
use Rattle.words.specs.Words.{words}
use Rattle.card.specs.Chains.{chain}
use Rattle.partitions.specs.Layout.{word_of}
use Rattle.inputs.specs.Ahead.{batched}
use Rattle.outputs.proofs.Writing.{chained-written}
use Rattle.merges.proofs.writing.put_output.Goals as goal

pub complete-requires : goal.complete-requires
complete-requires c =
    let W = words c.args.card.now in
    let o = c.args.o in
    let f = c.requires.1 in
    let a = c.add_batch in
    (omega (arith, a.auto.card, c.requires.0), f.some, f.small, f.entries, rw a.ensures (chained-written (chain W o.first o.blocks) W _ (map word_of (batched c.args.b)) o.first o.blocks f.chained), f.long)

pub returns-then-last : goal.returns-then-last
returns-then-last c = rw (c.if-last.true, ← c.add_batch.ensures) c.complete.ensures

pub returns-else-last : goal.returns-else-last
returns-else-last c = rw c.if-last.false c.add_batch.ensures
