-- `partitions::open_reader` meets its contract: the entries after the first lie ahead of one cursor, all postings ahead of the other.
use Rattle.lists.proofs.Prelude.{refl, arith}
use Rattle.words.specs.Words.{words}
use Rattle.card.specs.Chains.{blocks_for}
use Rattle.partitions.proofs.Headers.{first_block, header-room}
use Rattle.partitions.proofs.Listed.{entry-passed}
use Rattle.partitions.proofs.Starts.{header-word, first_small, reader-opened}
use Rattle.partitions.proofs.open_reader.Goals as goal

pub block_word-terms-requires : goal.block_word-terms-requires
block_word-terms-requires c =
    let W = words c.args.card.now in
    let p = c.args.p in
    let r = header-room W p c.requires.chained c.requires.header in
    let i = first_block W p.first (blocks_for p.length) c.requires.chained r.some in
    omega (arith, i.inside)

pub block_word-count-requires : goal.block_word-count-requires
block_word-count-requires c =
    let W = words c.args.card.now in
    let p = c.args.p in
    let r = header-room W p c.requires.chained c.requires.header in
    let i = first_block W p.first (blocks_for p.length) c.requires.chained r.some in
    omega (arith, i.inside)

pub first_entry-requires : goal.first_entry-requires
first_entry-requires c =
    let W = words c.args.card.now in
    let p = c.args.p in
    (c.requires.chained, c.requires.header)

pub entry_at-entry-requires : goal.entry_at-entry-requires
entry_at-entry-requires c =
    let W = words c.args.card.now in
    let p = c.args.p in
    let r = header-room W p c.requires.chained c.requires.header in
    (omega (arith, r.terms, c.first_entry.ensures.terms), c.first_entry.ensures.good)

pub overflow_mul-terms : goal.overflow_mul-terms
overflow_mul-terms c =
    let W = words c.args.card.now in
    let p = c.args.p in
    let r = header-room W p c.requires.chained c.requires.header in
    let t = header-word W p c.requires.chained c.requires.header 0 c.block_word-terms.result (omega arith) c.block_word-terms.ensures in
    omega (arith, r.bytes, t)

pub overflow_add-terms : goal.overflow_add-terms
overflow_add-terms c =
    let W = words c.args.card.now in
    let p = c.args.p in
    let r = header-room W p c.requires.chained c.requires.header in
    let t = header-word W p c.requires.chained c.requires.header 0 c.block_word-terms.result (omega arith) c.block_word-terms.ensures in
    omega (arith, r.bytes, t)

pub seek-requires : goal.seek-requires
seek-requires c =
    let W = words c.args.card.now in
    let p = c.args.p in
    let r = header-room W p c.requires.chained c.requires.header in
    let t = header-word W p c.requires.chained c.requires.header 0 c.block_word-terms.result (omega arith) c.block_word-terms.ensures in
    let m = header-word W p c.requires.chained c.requires.header 1 c.block_word-count.result (omega arith) c.block_word-count.ensures in
    (omega (arith, r.blocks, t, m, c.blocks_for.ensures), rw c.blocks_for.ensures c.requires.chained)

pub overflow_cast-result : goal.overflow_cast-result
overflow_cast-result c =
    let W = words c.args.card.now in
    let p = c.args.p in
    let r = header-room W p c.requires.chained c.requires.header in
    let at = c.first_entry.ensures in
    let q = entry-passed W c.first_entry.result (omega (arith, r.terms, at.terms)) at.good c.entry_at-entry.result c.entry_at-entry.ensures in
    omega (arith, first_small W p c.requires c.first_entry.result c.entry_at-entry.result at q)

pub returns : goal.returns
returns c =
    let W = words c.args.card.now in
    let p = c.args.p in
    let r = header-room W p c.requires.chained c.requires.header in
    let at = c.first_entry.ensures in
    let q = entry-passed W c.first_entry.result (omega (arith, r.terms, at.terms)) at.good c.entry_at-entry.result c.entry_at-entry.ensures in
    reader-opened W p c.requires c.first_entry.result c.entry_at-entry.result at q _ refl refl refl
    c.block_word-terms.result c.block_word-count.result c.blocks_for.result c.block_word-terms.ensures c.block_word-count.ensures c.blocks_for.ensures c.seek.ensures.0 c.seek.ensures.1
