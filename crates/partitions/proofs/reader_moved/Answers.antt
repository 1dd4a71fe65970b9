-- `partitions::reader_moved` meets its contract: past the last posting of an identifier comes the next entry.
use Rattle.lists.proofs.Prelude.{arith, lt-ltb, le-ltb}
use Rattle.words.specs.Words.{words}
use Rattle.partitions.specs.Readers.{moved_reader}
use Rattle.partitions.proofs.Readers.{numbered_more, reader-step}
use Rattle.partitions.proofs.reader_moved.Goals as goal

pub returns-then-r-gt1 : goal.returns-then-r-gt1
unfolding moved_reader
returns-then-r-gt1 c =
    reader-step (words c.args.card.now) c.args.r c.requires.0 c.requires.1 _
    (rw (lt-ltb 1 c.args.r.here c.if-r-gt1.true, c.moved-postings.ensures))

pub returns-then-r-eq0 : goal.returns-then-r-eq0
unfolding moved_reader
returns-then-r-eq0 c =
    reader-step (words c.args.card.now) c.args.r c.requires.0 c.requires.1 _
    (rw (le-ltb 1 c.args.r.here c.if-r-gt1.false, le-ltb 0 c.args.r.entries.left (omega arith), c.moved-postings.ensures))

pub overflow_cast-result : goal.overflow_cast-result
overflow_cast-result c =
    let n = numbered_more (words c.args.card.now) c.args.r.entries (omega (arith, c.requires.1.threes)) c.requires.1.numbers in
    rw c.entry_at-entry.ensures (omega (arith, n.0))

pub returns : goal.returns
unfolding moved_reader
returns c =
    reader-step (words c.args.card.now) c.args.r c.requires.0 c.requires.1 _
    (rw (le-ltb 1 c.args.r.here c.if-r-gt1.false, lt-ltb 0 c.args.r.entries.left (omega (arith, c.if-r-eq0.false)), c.moved-postings.ensures, c.entry_at-entry.ensures))
