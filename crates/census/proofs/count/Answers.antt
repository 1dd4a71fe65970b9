-- `census::count` meets its contract: partitions whose records tell other windows are malformed, and of the others the parts tell.
use Rattle.lists.proofs.Prelude.{sym, subst, arith, passed, failed, rules}
use mir.Syntax.{w16}
use mir.Val.{Fits}
use Rattle.words.specs.Words.{words}
use Rattle.state.specs.Views.{blocks, finished}
use Rattle.state.specs.Shown.{shown_in}
use Rattle.state.proofs.Kept.{state-kept}
use Rattle.partitions.specs.Reading.{stored}
use Rattle.spans.proofs.Lists.{lists-spanned, lists-unspanned}
use Rattle.kway.proofs.Readable.{all-readable}
use Rattle.census.specs.Existing.{CountedIn}
use Rattle.census.proofs.Walking.{orderly}
use Rattle.census.proofs.count.Goals as goal

pub spans_ok-requires : goal.spans_ok-requires
spans_ok-requires c =
    let q = c.args.s in
    let k = state-kept q c.requires.0 in
    (k.partitions.used, all-readable (words c.args.card.now) (blocks q) (finished q.partitions) c.requires.1 k.lengths.most_blocks c.requires.2)

pub returns-then-not-spans_ok : goal.returns-then-not-spans_ok
returns-then-not-spans_ok c =
    lists-unspanned (words c.args.card.now) (finished c.args.s.partitions) (failed c.spans_ok.ensures c.if-not-spans_ok.true-raw)

pub count_parts-requires : goal.count_parts-requires
count_parts-requires c =
    let q = c.args.s in
    let k = state-kept q c.requires.0 in
    let f : Fits w16 q.windows.last = search rules in
    (k.partitions.used, omega arith, all-readable (words c.args.card.now) (blocks q) (finished q.partitions) c.requires.1 k.lengths.most_blocks c.requires.2, orderly q c.requires.0 (omega (arith, f.fits)), omega arith, omega arith)

pub returns : goal.returns
unfolding stored
returns c =
    let W = words c.args.card.now in
    let q = c.args.s in
    let r = c.count_parts in
    let e = lists-spanned W (finished q.partitions) (passed c.spans_ok.ensures c.if-not-spans_ok.false-raw) in
    subst (λ b. CountedIn b (stored W q) (shown_in c.args.t q.windows) r.result) (sym e) r.ensures
