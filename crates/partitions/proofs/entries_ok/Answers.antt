use Rattle.lists.proofs.Prelude.{refl, sym, ap, ◌∙◌, arith, passed, failed}
use Rattle.words.specs.Words.{words}
use Rattle.card.specs.Chains.{blocks_for}
use Rattle.card.specs.Cursors.{ahead}
use Rattle.partitions.proofs.Headers.{first_block, header-room}
use Rattle.partitions.proofs.Listed.{resumed, term-facts, resumed-fails, resumed-step, resumed-done, ahead_none, entry-passed}
use Rattle.partitions.proofs.Starts.{entries-start}
use Rattle.partitions.proofs.entries_ok.Goals as goal

pub block_word-count-requires : goal.block_word-count-requires
block_word-count-requires c =
    let W = words c.args.card.now in
    let r = header-room W c.args.p c.requires.0 c.requires.1 in
    let i = first_block W c.args.p.first (blocks_for c.args.p.length) c.requires.0 r.some in
    omega (arith, i.inside)

pub loop-e-init : goal.loop-e-init
loop-e-init c = (omega (arith, c.first_entry-e.ensures.terms), omega arith, omega arith, c.first_entry-e.ensures.good, refl)

pub entry_at-entry-requires : goal.entry_at-entry-requires
entry_at-entry-requires c = (omega arith, c.loop-e.invariant.3)

pub returns-then-not-entry_ok : goal.returns-then-not-entry_ok
returns-then-not-entry_ok c =
    let W = words c.args.card.now in
    let x = c.entry_at-entry.result in
    let q = entry-passed W c.loop-e.e (omega arith) c.loop-e.invariant.3 x c.entry_at-entry.ensures in
    let b = c.entry_ok.ensures in
    let f = failed b c.if-not-entry_ok.true-raw in
    sym (entries-start W c.args.p c.requires.0 c.requires.1 c.first_entry-e.result c.first_entry-e.ensures c.block_word-count.result c.block_word-count.ensures
    ∙ c.loop-e.invariant.4
    ∙ ap (resumed c.block_word-count.result c.loop-e.next c.loop-e.sum) q.words
    ∙ resumed-fails c.block_word-count.result c.loop-e.next c.loop-e.sum x.number x.count x.first (ahead W x.rest) f)

pub overflow_add-next : goal.overflow_add-next
overflow_add-next c =
    let W = words c.args.card.now in
    let x = c.entry_at-entry.result in
    let q = entry-passed W c.loop-e.e (omega arith) c.loop-e.invariant.3 x c.entry_at-entry.ensures in
    let t = term-facts c.loop-e.next c.loop-e.sum x.number x.count x.first (passed c.entry_ok.ensures c.if-not-entry_ok.false-raw) in
    omega (arith, t.small)

pub overflow_add-sum : goal.overflow_add-sum
overflow_add-sum c =
    let W = words c.args.card.now in
    let x = c.entry_at-entry.result in
    let q = entry-passed W c.loop-e.e (omega arith) c.loop-e.invariant.3 x c.entry_at-entry.ensures in
    omega arith

pub loop-e-smaller : goal.loop-e-smaller
loop-e-smaller c =
    let W = words c.args.card.now in
    let x = c.entry_at-entry.result in
    let q = entry-passed W c.loop-e.e (omega arith) c.loop-e.invariant.3 x c.entry_at-entry.ensures in
    omega (arith, q.left)

pub loop-e-preserved : goal.loop-e-preserved
loop-e-preserved c =
    let W = words c.args.card.now in
    let x = c.entry_at-entry.result in
    let q = entry-passed W c.loop-e.e (omega arith) c.loop-e.invariant.3 x c.entry_at-entry.ensures in
    let t = term-facts c.loop-e.next c.loop-e.sum x.number x.count x.first (passed c.entry_ok.ensures c.if-not-entry_ok.false-raw) in (
      omega (arith, q.left),
      omega (arith, t.small),
      omega (arith, t.starts),
      q.good,
      c.loop-e.invariant.4
          ∙ ap (resumed c.block_word-count.result c.loop-e.next c.loop-e.sum) q.words
          ∙ resumed-step c.block_word-count.result c.loop-e.next c.loop-e.sum x.number x.count x.first (ahead W x.rest) (passed c.entry_ok.ensures c.if-not-entry_ok.false-raw),
    )

pub returns : goal.returns
returns c =
    let W = words c.args.card.now in
    let k = c.block_word-count.result in
    sym (entries-start W c.args.p c.requires.0 c.requires.1 c.first_entry-e.result c.first_entry-e.ensures k c.block_word-count.ensures
    ∙ c.loop-e.invariant.4 ∙ resumed-done k c.loop-e.next c.loop-e.sum (ahead W c.loop-e.e) (ahead_none W c.loop-e.e (omega arith)))
