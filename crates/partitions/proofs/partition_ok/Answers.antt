-- `partitions::partition_ok` meets its contract: the parts of the rule in their order.
use Rattle.lists.proofs.Prelude.{sym, ap, ◌∙◌, passed, failed}
use Rattle.words.specs.Words.{words}
use Rattle.card.specs.Chains.{blocks_for, chain_rule}
use Rattle.card.proofs.Seeking.{rule-chained}
use Rattle.partitions.proofs.Starts.{rule-some, fails-chain, fails-header, leaves-entries}
use Rattle.partitions.proofs.partition_ok.Goals as goal

pub returns-then-not-chain_ok : goal.returns-then-not-chain_ok
returns-then-not-chain_ok c =
    let W = words c.args.card.now in
    let p = c.args.p in
    let n = ap (chain_rule W c.args.blocks p.first) c.blocks_for.ensures in
    sym (fails-chain W c.args.blocks p (sym n ∙ failed c.chain_ok.ensures c.if-not-chain_ok.true-raw))

pub header_ok-requires : goal.header_ok-requires
header_ok-requires c =
    let W = words c.args.card.now in
    let p = c.args.p in
    let n = ap (chain_rule W c.args.blocks p.first) c.blocks_for.ensures in
    let g = sym n ∙ passed c.chain_ok.ensures c.if-not-chain_ok.false-raw in
    (rule-chained W c.args.blocks p.first (blocks_for p.length) c.requires.0 c.requires.1 g, rule-some W c.args.blocks p.first (blocks_for p.length) g)

pub returns-then-not-header_ok : goal.returns-then-not-header_ok
returns-then-not-header_ok c =
    let W = words c.args.card.now in
    let p = c.args.p in
    let n = ap (chain_rule W c.args.blocks p.first) c.blocks_for.ensures in
    let g = sym n ∙ passed c.chain_ok.ensures c.if-not-chain_ok.false-raw in
    sym (fails-header W c.args.blocks p g (failed c.header_ok.ensures c.if-not-header_ok.true-raw))

pub entries_ok-requires : goal.entries_ok-requires
entries_ok-requires c =
    let W = words c.args.card.now in
    let p = c.args.p in
    let n = ap (chain_rule W c.args.blocks p.first) c.blocks_for.ensures in
    let g = sym n ∙ passed c.chain_ok.ensures c.if-not-chain_ok.false-raw in
    (rule-chained W c.args.blocks p.first (blocks_for p.length) c.requires.0 c.requires.1 g, passed c.header_ok.ensures c.if-not-header_ok.false-raw)

pub returns : goal.returns
returns c =
    let W = words c.args.card.now in
    let p = c.args.p in
    let n = ap (chain_rule W c.args.blocks p.first) c.blocks_for.ensures in
    let g = sym n ∙ passed c.chain_ok.ensures c.if-not-chain_ok.false-raw in
    c.entries_ok.ensures ∙ sym (leaves-entries W c.args.blocks p g (passed c.header_ok.ensures c.if-not-header_ok.false-raw))
