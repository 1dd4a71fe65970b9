use Rattle.lists.proofs.Prelude.{List, map, sym, ap, ◌∙◌, ℕ, arith}
use Rattle.words.specs.Words.{words}
use Rattle.postings.specs.Pack.{posted}
use Rattle.postings.specs.Sums.{under}
use Rattle.card.specs.Chains.{blocks_for, content}
use Rattle.card.specs.Cursors.{ahead}
use Rattle.partitions.specs.Reading.{field, chain_of, posting_words}
use Rattle.partitions.proofs.Headers.{first_block, header-room}
use Rattle.partitions.proofs.Listed.{lists_by, under-passed, resumes-more, resumes-at, lists-none, ahead_none, entry-passed}
use Rattle.partitions.proofs.Starts.{header-word, resumes-start, under-start, list-room, list-found}
use Rattle.partitions.proofs.find_list.Goals as goal

pub block_word-terms-requires : goal.block_word-terms-requires
block_word-terms-requires c =
    let W = words c.args.card.now in
    let p = c.args.p in
    let r = header-room W p c.requires.chained c.requires.header in
    let i = first_block W p.first (blocks_for p.length) c.requires.chained r.some in
    omega (arith, i.inside)

pub first_entry-e-requires : goal.first_entry-e-requires
first_entry-e-requires c =
    let W = words c.args.card.now in
    let p = c.args.p in
    (c.requires.chained, c.requires.header)

pub loop-e-init : goal.loop-e-init
loop-e-init c =
    let W = words c.args.card.now in
    let p = c.args.p in
    let e = c.first_entry-e.result in
    let at = c.first_entry-e.ensures in
    (omega (arith, at.terms), at.good, resumes-start W p c.requires e at, under-start W p c.requires c.args.id e at)

pub entry_at-entry-requires : goal.entry_at-entry-requires
entry_at-entry-requires c = (omega arith, c.loop-e.invariant.1)

pub overflow_mul-terms : goal.overflow_mul-terms
overflow_mul-terms c =
    let W = words c.args.card.now in
    let p = c.args.p in
    let a = c.loop-e in
    let r = header-room W p c.requires.chained c.requires.header in
    let t = header-word W p c.requires.chained c.requires.header 0 c.block_word-terms.result (omega arith) c.block_word-terms.ensures in
    omega (arith, r.bytes, t)

pub overflow_add-terms : goal.overflow_add-terms
overflow_add-terms c =
    let W = words c.args.card.now in
    let p = c.args.p in
    let a = c.loop-e in
    let r = header-room W p c.requires.chained c.requires.header in
    let t = header-word W p c.requires.chained c.requires.header 0 c.block_word-terms.result (omega arith) c.block_word-terms.ensures in
    omega (arith, r.bytes, t)

pub overflow_add-terms-then-entry-id : goal.overflow_add-terms-then-entry-id
overflow_add-terms-then-entry-id c =
    let W = words c.args.card.now in
    let p = c.args.p in
    let a = c.loop-e in
    let x = c.entry_at-entry.result in
    let q = entry-passed W a.e (omega arith) a.invariant.1 x c.entry_at-entry.ensures in
    let r = header-room W p c.requires.chained c.requires.header in
    let t = header-word W p c.requires.chained c.requires.header 0 c.block_word-terms.result (omega arith) c.block_word-terms.ensures in
    let f = list-room W p c.requires a.e x a.invariant.2 q in
    omega (arith, r.bytes, t, f)

pub seek-requires : goal.seek-requires
seek-requires c =
    let W = words c.args.card.now in
    let p = c.args.p in
    let a = c.loop-e in
    let x = c.entry_at-entry.result in
    let q = entry-passed W a.e (omega arith) a.invariant.1 x c.entry_at-entry.ensures in
    let r = header-room W p c.requires.chained c.requires.header in
    let t = header-word W p c.requires.chained c.requires.header 0 c.block_word-terms.result (omega arith) c.block_word-terms.ensures in
    let f = list-room W p c.requires a.e x a.invariant.2 q in
    (omega (arith, r.blocks, t, f, c.blocks_for.ensures), rw c.blocks_for.ensures c.requires.chained)

pub returns-then-entry-id : goal.returns-then-entry-id
returns-then-entry-id c =
    let W = words c.args.card.now in
    let p = c.args.p in
    let a = c.loop-e in
    let x = c.entry_at-entry.result in
    let q = entry-passed W a.e (omega arith) a.invariant.1 x c.entry_at-entry.ensures in (
      list-found W p c.requires a.e x a.invariant.2 q c.args.id (omega arith) a.invariant.3 c.block_word-terms.result c.blocks_for.result c.block_word-terms.ensures c.blocks_for.ensures
          (ahead W c.seek.result) c.seek.ensures.0,
      c.seek.ensures.1,
    )

pub loop-e-smaller : goal.loop-e-smaller
loop-e-smaller c =
    let W = words c.args.card.now in
    let p = c.args.p in
    let a = c.loop-e in
    let x = c.entry_at-entry.result in
    let q = entry-passed W a.e (omega arith) a.invariant.1 x c.entry_at-entry.ensures in
    omega (arith, q.left)

pub loop-e-preserved : goal.loop-e-preserved
loop-e-preserved c =
    let W = words c.args.card.now in
    let p = c.args.p in
    let a = c.loop-e in
    let x = c.entry_at-entry.result in
    let q = entry-passed W a.e (omega arith) a.invariant.1 x c.entry_at-entry.ensures in
    let k = content W (chain_of W p) in (
      omega (arith, q.left),
      q.good,
      resumes-more (field k 1) x.number x.count x.first (ahead W x.rest) (resumes-at (field k 1) q.words a.invariant.2),
      sym (under-passed (posting_words k) c.args.id x.number x.count x.first (ahead W x.rest) (λ z. c.if-entry-id.false z))
          ∙ sym (ap (λ (l : List ℕ). under c.args.id (lists_by (posting_words k) l)) q.words) ∙ a.invariant.3,
    )

pub returns : goal.returns
returns c =
    let W = words c.args.card.now in
    let p = c.args.p in
    let a = c.loop-e in
    let n = ahead_none W a.e (omega arith) in (
      ap (map (posted c.args.id)) n
          ∙ sym (ap (under c.args.id) (lists-none (posting_words (content W (chain_of W p))) (ahead W a.e) n)) ∙ a.invariant.3,
      a.invariant.1,
    )
