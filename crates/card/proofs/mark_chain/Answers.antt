use Rattle.lists.proofs.Prelude.{or-false, ◌≡◌, refl, sym, ◌∙◌, ◌+◌, ◌-◌, arith, apart-hit, apart_more, union_more}
use Rattle.words.specs.Words.{words}
use Rattle.card.specs.Blocks.{link}
use Rattle.card.specs.Chains.{chain}
use Rattle.card.specs.Marks.{marked}
use Rattle.card.proofs.Chains.{chain_more, chain-none, chained_more}
use Rattle.card.proofs.mark_chain.Goals as goal

pub loop-init : goal.loop-init
loop-init c = let e : c.args.n - 0 ≡ c.args.n = omega arith in rw e (record { chained = c.requires; apart = refl; marks = λ b. refl })

pub overflow_cast-block : goal.overflow_cast-block
overflow_cast-block c = omega (arith, (chained_more (words c.args.card.now) c.loop.next (c.args.n - c.loop.counter) (omega arith) c.loop.invariant.chained).0.few)

pub is_marked-requires : goal.is_marked-requires
is_marked-requires c = (chained_more (words c.args.card.now) c.loop.next (c.args.n - c.loop.counter) (omega arith) c.loop.invariant.chained).0.few

pub returns-then-is_marked : goal.returns-then-is_marked
returns-then-is_marked c =
    let W = words c.args.card.now in
    let left = c.args.n - c.loop.counter in
    let e = chain_more W c.loop.next left (omega arith) in
    let hit = sym c.is_marked.ensures ∙ c.if-is_marked.true in
    c.loop.invariant.apart ∙ rw e (apart-hit (marked c.loop.marks) c.loop.next (chain W (link W c.loop.next) (left - 1)) hit)

pub mark-marks-requires : goal.mark-marks-requires
mark-marks-requires c = (chained_more (words c.args.card.now) c.loop.next (c.args.n - c.loop.counter) (omega arith) c.loop.invariant.chained).0.few

pub block_word-next-requires : goal.block_word-next-requires
block_word-next-requires c = (chained_more (words c.args.card.now) c.loop.next (c.args.n - c.loop.counter) (omega arith) c.loop.invariant.chained).0.inside

pub loop-preserved : goal.loop-preserved
loop-preserved c =
    let W = words c.args.card.now in
    let left = c.args.n - c.loop.counter in
    let k : c.args.n - (c.loop.counter + 1) ≡ left - 1 = omega arith in
    let e = chain_more W c.loop.next left (omega arith) in
    let l = chain W (link W c.loop.next) (left - 1) in
    let p = marked c.loop.marks in
    let q = marked c.mark-marks.result in
    let v = c.loop.invariant in
    rw (c.block_word-next.ensures, k) (record {
      chained = (chained_more W c.loop.next left (omega arith) v.chained).1;
      apart = v.apart ∙ rw e (apart_more p q c.loop.next c.mark-marks.ensures l (sym c.is_marked.ensures ∙ c.if-is_marked.false));
      marks = λ b. v.marks b ∙ rw e (union_more p q c.loop.next c.mark-marks.ensures l b);
    })

pub returns : goal.returns
returns c =
    let e = chain-none (words c.args.card.now) c.loop.next (c.args.n - c.loop.counter) (omega arith) in
    record {
      apart = c.loop.invariant.apart ∙ rw e;
      marks = λ b. sym (c.loop.invariant.marks b ∙ rw e (or-false (marked c.loop.marks b)));
    }
