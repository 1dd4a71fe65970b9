-- `outputs::block_of` meets its contract.
use Rattle.lists.proofs.Prelude.{⊎_elim, arith, lt-ltb, le-ltb}
use Rattle.outputs.proofs.block_of.Goals as goal

pub overflow_cast-result : goal.overflow_cast-result
overflow_cast-result c =
    let g = rw (lt-ltb _ _ c.if-k-gt0.true, c.if-k-eq0.true-raw) at c.requires.1 in
    omega (arith, c.block_word.ensures, g.few)

pub returns-then-k-eq0 : goal.returns-then-k-eq0
returns-then-k-eq0 c = rw (lt-ltb _ _ c.if-k-gt0.true, c.if-k-eq0.true-raw) c.block_word.ensures

pub returns : goal.returns
returns c =
    ⊎_elim
    (λ w. rw (lt-ltb _ _ w.if-k-gt0.true, w.if-k-eq0.false-raw))
    (λ w. let k = c.args.k in rw (le-ltb 0 k (omega (arith, w.if-k-gt0.false))))
    c.else-k-gt0.branch-raw
