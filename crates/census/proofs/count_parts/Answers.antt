use Rattle.lists.proofs.Prelude.{◌++◌, sym, arith, rules}
use Rattle.words.specs.Words.{words}
use Rattle.state.specs.Views.{buffered, finished}
use Rattle.partitions.specs.Reading.{in_partitions}
use Rattle.census.proofs.Parts.{so-far-few, so-far-none, part-more, part-last}
use Rattle.census.proofs.count_parts.Goals as goal

pub loop-more-init : goal.loop-more-init
loop-more-init c =
    let a = c.args in
    let l = in_partitions (words a.card.now) (finished a.ps) ++ buffered a.b in
    let m = c.max-from.ensures in
    (omega (arith, m), omega (arith, m), c.requires.1, search rules, sym (so-far-none a.t a.v l c.max-from.result (λ w p q r. omega (arith, m))))

pub part_from-part-requires : goal.part_from-part-requires
part_from-part-requires c = (c.requires.4, c.requires.5)

pub count_part-requires : goal.count_part-requires
count_part-requires c =
    let v = c.loop-more.invariant in
    let p = c.part_from-part.ensures in
    (c.requires.0, v.2, c.requires.2, c.requires.3, record { some = omega (arith, p.0, v.0); room = omega (arith, p.0, p.2, v.3) })

pub overflow_add-windows : goal.overflow_add-windows
overflow_add-windows c =
    let a = c.args in
    let l = c.loop-more in
    omega (arith, l.invariant.4, so-far-few a.t a.v (in_partitions (words a.card.now) (finished a.ps) ++ buffered a.b) l.from, c.in_ok-more.ensures.few)

pub returns-then-part-t : goal.returns-then-part-t
returns-then-part-t c =
    let a = c.args in
    let l = c.loop-more in
    let p = c.part_from-part in
    let n = c.in_ok-more in
    part-last a.t a.v (in_partitions (words a.card.now) (finished a.ps) ++ buffered a.b) p.result (omega (arith, p.ensures.0, l.invariant.1)) l.from l.windows n.more p.ensures.0 l.invariant.4 n.ensures.windows
    c.if-part-t.true _ n.ensures.fine

pub overflow_add-from : goal.overflow_add-from
overflow_add-from c = let p = c.part_from-part.ensures in omega (arith, c.if-part-t.false, p.1)

pub loop-more-smaller : goal.loop-more-smaller
loop-more-smaller c =
    let p = c.part_from-part.ensures in
    let h = p.3 (omega (arith, p.1, c.if-part-t.false)) in
    omega (arith, h)

pub loop-more-preserved : goal.loop-more-preserved
loop-more-preserved c =
    let a = c.args in
    let l = c.loop-more in
    let p = c.part_from-part in
    let n = c.in_ok-more in
    -- a part that is not the last ends below the stretch's last window, and not before it begins
    let h = p.ensures.3 (omega (arith, p.ensures.1, c.if-part-t.false)) in (
      omega arith,
      omega (arith, h, l.invariant.1),
      omega (arith, c.heads-1.given, l.invariant.2),
      omega (arith, c.marks-1.given, l.invariant.3),
      part-more a.t a.v (in_partitions (words a.card.now) (finished a.ps) ++ buffered a.b) p.result (omega (arith, p.ensures.0, l.invariant.1)) l.from l.windows n.more p.ensures.0 l.invariant.4 n.ensures.windows
          h p.ensures.1,
    )
