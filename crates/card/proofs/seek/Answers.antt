use Rattle.lists.proofs.Prelude.{inl, inr, by-test, ltb, ltb-true, ltb-false, ◌⊎◌, ◌≡◌, ◌+◌, ◌-◌, ◌*◌, ◌≤◌, ◌<◌, ap, sym, ◌∙◌, arith, take}
use Rattle.words.specs.Words.{words}
use Rattle.card.proofs.Seeking.{ahead-chain, past}
use Rattle.card.proofs.seek.Goals as goal

pub next_block-block-requires : goal.next_block-block-requires
next_block-block-requires c =
    let p = past (words c.args.card.now) c.loop.block (c.args.n - c.loop.counter) (c.args.offset - 1023 * c.loop.counter) c.args.left (omega arith) (omega arith) (omega arith) c.loop.invariant.chained in
    (p.0, p.1)

pub loop-preserved : goal.loop-preserved
loop-preserved c =
    let n = c.args.n - c.loop.counter in
    let k = c.args.offset - 1023 * c.loop.counter in
    let p = past (words c.args.card.now) c.loop.block n k c.args.left (omega arith) (omega arith) (omega arith) c.loop.invariant.chained in
    let n' : c.args.n - (c.loop.counter + 1) ≡ n - 1 = omega arith in
    let k' : c.args.offset - 1023 * (c.loop.counter + 1) ≡ k - 1023 = omega arith in
    rw (c.next_block-block.ensures, n', k') (record { chained = p.2; same = ap (take c.args.left) (sym p.3) ∙ c.loop.invariant.same })

pub returns : goal.returns
returns c =
    let n = c.args.n - c.loop.counter in
    let e : c.loop.counter ≡ c.min-passed.result = omega arith in
    let k = c.args.offset - 1023 * c.loop.counter in
    let in-first : (k < 1023) ⊎ (n ≤ 1) = by-test (ltb k 1023) (λ y. inl (ltb-true k 1023 y)) (λ f. inr (omega (arith, ltb-false k 1023 f))) in
    let r = ahead-chain (words c.args.card.now) c.args.left n c.loop.block k in-first (omega arith) c.loop.invariant.chained in
    rw (← e) (r.0 ∙ c.loop.invariant.same, r.1)
