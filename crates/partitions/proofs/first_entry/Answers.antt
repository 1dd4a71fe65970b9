-- `partitions::first_entry` meets its contract: header and entries lie within the chain.
use Rattle.lists.proofs.Prelude.{arith}
use Rattle.words.specs.Words.{words}
use Rattle.card.specs.Chains.{blocks_for}
use Rattle.partitions.proofs.Headers.{first_block, header-room}
use Rattle.partitions.proofs.Starts.{header-word, entries_at}
use Rattle.partitions.proofs.first_entry.Goals as goal

pub block_word-terms-requires : goal.block_word-terms-requires
block_word-terms-requires c =
    let W = words c.args.card.now in
    let r = header-room W c.args.p c.requires.0 c.requires.1 in
    let i = first_block W c.args.p.first (blocks_for c.args.p.length) c.requires.0 r.some in
    omega (arith, i.inside)

pub overflow_mul-terms : goal.overflow_mul-terms
overflow_mul-terms c =
    let W = words c.args.card.now in
    let r = header-room W c.args.p c.requires.0 c.requires.1 in
    let t = header-word W c.args.p c.requires.0 c.requires.1 0 c.block_word-terms.result (omega arith) c.block_word-terms.ensures in
    omega (arith, r.bytes, t)

pub seek-requires : goal.seek-requires
seek-requires c =
    let W = words c.args.card.now in
    let r = header-room W c.args.p c.requires.0 c.requires.1 in
    let t = header-word W c.args.p c.requires.0 c.requires.1 0 c.block_word-terms.result (omega arith) c.block_word-terms.ensures in
    (omega (arith, r.blocks, t, c.blocks_for.ensures), rw c.blocks_for.ensures c.requires.0)

pub returns : goal.returns
returns c =
    entries_at (words c.args.card.now) c.args.p c.requires.0 c.requires.1
    c.block_word-terms.result c.blocks_for.result c.block_word-terms.ensures c.blocks_for.ensures
    c.seek.result c.seek.ensures.0 c.seek.ensures.1
