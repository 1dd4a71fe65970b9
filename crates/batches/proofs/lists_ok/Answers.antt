use Rattle.lists.proofs.Prelude.{◌≡◌, ◌+◌, ◌-◌, ◌*◌, arith, length, length-drop, length-take-le, take, drop, not-true, not-false, rules}
use Rattle.words.specs.Words.{words}
use Rattle.batches.proofs.Passes.{passing-none, passing-more, passing-bad, passing-end}
use Rattle.batches.proofs.lists_ok.Goals as goal

pub read_all-fine-requires : goal.read_all-fine-requires
read_all-fine-requires c =
    let l = c.loop-s in
    let n = c.portion-count.result in
    let e : l.from + n - l.from ≡ n = omega arith in
    let long : length (take n (drop l.from c.args.named.now)) ≡ n = length-take-le n (drop l.from c.args.named.now) (omega (arith, length-drop l.from c.args.named.now, c.portion-count.ensures)) in
    (c.requires.0, c.requires.1, c.requires.2, rw e (omega (arith, long, c.portion-count.ensures)), rw e (omega (arith, long, length-take-le (65 * n - 0) l.slots (omega (arith, l.invariant.long, c.portion-count.ensures)))))

pub returns-then-not-fine : goal.returns-then-not-fine
returns-then-not-fine c =
    let l = c.loop-s in
    let n = c.portion-count in
    let r = c.read_all-fine in
    let e : l.from + n.result - l.from ≡ n.result = omega arith in
    passing-bad (words c.args.card.now) c.args.s c.args.named.now l.from l.slots l.invariant n.result n.ensures r.result _ (rw e at r.ensures) (not-true _ c.if-not-fine.true-raw)

pub returns-then-to-n : goal.returns-then-to-n
returns-then-to-n c =
    let l = c.loop-s in
    let n = c.portion-count in
    let r = c.read_all-fine in
    let e : l.from + n.result - l.from ≡ n.result = omega arith in
    passing-end (words c.args.card.now) c.args.s c.args.named.now l.from l.slots l.invariant n.result n.ensures r.result _ (rw e at r.ensures) (not-false _ c.if-not-fine.false-raw) (omega (arith, c.if-to-n.true, n.ensures, l.invariant.within))

pub loop-s-preserved : goal.loop-s-preserved
loop-s-preserved c =
    let l = c.loop-s in
    let n = c.portion-count in
    let r = c.read_all-fine in
    let e : l.from + n.result - l.from ≡ n.result = omega arith in
    passing-more (words c.args.card.now) c.args.s c.args.named.now l.from l.slots l.invariant n.result n.ensures r.result _ (rw e at r.ensures) (not-false _ c.if-not-fine.false-raw)

pub loop-s-init : goal.loop-s-init
loop-s-init c = passing-none _ _ _ _ (search rules)
