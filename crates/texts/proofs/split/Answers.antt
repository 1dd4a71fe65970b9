use Rattle.lists.proofs.Prelude.{refl, sym, ap, ℕ, ◌-◌, ◌<◌, arith, rules, length, take, drop, length-set, eq-eqb, ne_eqb}
use Rattle.texts.proofs.Splitting.{start-split, on-byte, on-space, on-gap, on-nothing, on-last, too_long}
use Rattle.texts.proofs.split.Goals as goal
use Rattle.texts.proofs.split.Goals.{then-line-i-eq32+else-start-i, else-line-i-eq32}

pub returns-then-line-gt512 : goal.returns-then-line-gt512
returns-then-line-gt512 c = (sym (too_long _ (omega arith)), omega arith, search rules)

pub loop-i-init : goal.loop-i-init
loop-i-init c = (start-split _ _, omega arith, c.requires)

pub returns-then-start-i : goal.returns-then-start-i
returns-then-start-i c =
    (sym (on-gap c.loop-i.invariant.0 (omega arith) (eq-eqb _ _ c.if-line-i-eq32.true) (omega arith) c.loop-i.invariant.1), omega arith, c.loop-i.invariant.0.long)

pub loop-i-preserved : goal.loop-i-preserved
loop-i-preserved c =
    let i = c.loop-i.invariant in
    let h : c.loop-i.i < length c.args.line.now = omega arith in
    elim c.if-line-i-eq32.branch [
      | then-line-i-eq32+else-start-i w ↦
          let b : c.loop-i.start < c.loop-i.i = omega (arith, i.0.begun, w.if-start-i.false) in
          let m : c.loop-i.n < length c.args.parts.now = omega (arith, i.0.twice, i.0.within) in
          (rw (w.parts-is, w.n-is, w.start-is) (on-space i.0 h _ (eq-eqb _ _ w.if-line-i-eq32.true) b m refl), i.1, i.2)
      | else-line-i-eq32 w ↦ (rw (w.parts-is, w.n-is, w.start-is) (on-byte i.0 h (ne_eqb _ _ w.if-line-i-eq32.false)), i.1, i.2)
    ]

pub returns-then-start-line : goal.returns-then-start-line
returns-then-start-line c =
    (sym (on-nothing c.loop-i.invariant.0 (omega arith) c.loop-i.invariant.1 (omega arith)), omega arith, c.loop-i.invariant.0.long)

pub returns : goal.returns
returns c =
    (on-last c.loop-i.invariant.0 (omega arith) c.loop-i.invariant.1 _ (omega arith) (omega arith) (ap (λ (k : ℕ). take (k - c.loop-i.start) (drop c.loop-i.start c.args.line.now)) (omega arith)), omega arith, simp length-set c.loop-i.invariant.0.long)
