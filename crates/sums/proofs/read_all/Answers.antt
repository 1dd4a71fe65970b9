-- `sums::read_all` meets its contract: partitions whose records tell other windows are malformed, and of the others the walk tells.
use Rattle.lists.proofs.Prelude.{◌&&◌, refl, sym, ap, arith, every, passed, failed, never}
use Rattle.words.specs.Words.{words}
use Rattle.state.specs.Views.{blocks, finished}
use Rattle.state.proofs.Kept.{state-kept}
use Rattle.spans.proofs.Lists.{lists-unspanned}
use Rattle.kway.proofs.Readable.{all-readable}
use Rattle.sums.specs.Tally.{window_formed}
use Rattle.sums.proofs.Slots.{cleared-tidy}
use Rattle.sums.proofs.read_all.Goals as goal

pub spans_ok-requires : goal.spans_ok-requires
spans_ok-requires c =
    let q = c.args.s in
    let k = state-kept q c.requires.0 in
    (k.partitions.used, all-readable (words c.args.card.now) (blocks q) (finished q.partitions) c.requires.1 k.lengths.most_blocks c.requires.2)

pub returns-then-not-spans_ok : goal.returns-then-not-spans_ok
returns-then-not-spans_ok c =
    let k = c.clear.ensures in
    let e = lists-unspanned (words c.args.card.now) (finished c.args.s.partitions) (failed c.spans_ok.ensures c.if-not-spans_ok.true-raw) in
    record {
      fine = sym (ap (λ b. b && every (window_formed (words c.args.card.now) c.args.s) c.args.windows.now) e);
      counts = λ y. never y;
      keyed = λ y. never y;
      long = k.long;
      tidy = cleared-tidy c.args.windows.now _ k;
    }

pub open_heads-start-requires : goal.open_heads-start-requires
open_heads-start-requires c =
    let q = c.args.s in
    let k = state-kept q c.requires.0 in
    (k.partitions.used, omega (arith, k.partitions.used), omega arith, all-readable (words c.args.card.now) (blocks q) (finished q.partitions) c.requires.1 k.lengths.most_blocks c.requires.2)

pub walk-requires : goal.walk-requires
walk-requires c =
    let k = state-kept c.args.s c.requires.0 in
    let o = c.open_heads-start.ensures in (
      record {
        rule = c.requires.0;
        buffer = refl;
        room = omega (arith, k.partitions.used, o.0);
        kept = o.1;
        lists = o.2;
        top = o.3;
        spans = passed c.spans_ok.ensures c.if-not-spans_ok.false-raw;
      },
      c.requires.3,
      c.clear.ensures,
    )

pub returns : goal.returns
returns c = c.walk.ensures
