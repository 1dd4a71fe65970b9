-- `merges::writing::complete` meets its contract.
use Rattle.lists.proofs.Prelude.{◌∙◌, arith}
use Rattle.words.specs.Words.{words}
use Rattle.card.specs.Chains.{chain}
use Rattle.partitions.specs.Layout.{header}
use Rattle.outputs.proofs.Writing.{chain-written, chained-written}
use Rattle.merges.proofs.writing.complete.Goals as goal

pub write_entries-requires : goal.write_entries-requires
write_entries-requires c =
    let W = words c.args.card.now in
    let o = c.args.o in
    let h = c.write_header in
    let hs = header c.args.level c.args.t.terms c.args.t.postings c.args.t.lowest c.args.t.highest in
    (omega (arith, h.auto.card, c.requires.0), c.requires.1, c.requires.3, rw h.ensures (chained-written (chain W o.first o.blocks) W 0 hs o.first o.blocks c.requires.4), c.requires.5)

pub returns : goal.returns
returns c =
    let W = words c.args.card.now in
    let o = c.args.o in
    let h = c.write_header in
    let hs = header c.args.level c.args.t.terms c.args.t.postings c.args.t.lowest c.args.t.highest in
    c.write_entries.ensures ∙ rw (h.ensures, chain-written (chain W o.first o.blocks) W 0 hs o.first o.blocks)
