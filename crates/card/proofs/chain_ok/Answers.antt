use Rattle.lists.proofs.Prelude.{◌≡◌, sym, ◌∙◌, ◌+◌, ◌-◌, arith, le-ltb}
use Rattle.words.specs.Words.{words}
use Rattle.card.proofs.Chains.{rule-rest, rule-none, rest_out, rest-on, rest_end}
use Rattle.card.proofs.chain_ok.Goals as goal

pub loop-init : goal.loop-init
loop-init c = let e : c.args.n - 0 ≡ c.args.n = omega arith in rw e

pub returns-then-blocks-next : goal.returns-then-blocks-next
returns-then-blocks-next c =
    let W = words c.args.card.now in
    sym (rule-rest W c.args.blocks c.args.first c.args.n (omega arith) ∙ c.loop.invariant ∙ rest_out W c.args.blocks c.loop.next (c.args.n - c.loop.counter) (omega arith) (omega arith))

pub loop-preserved : goal.loop-preserved
loop-preserved c =
    let k : c.args.n - (c.loop.counter + 1) ≡ c.args.n - c.loop.counter - 1 = omega arith in
    rw (c.block_word-next.ensures, k) (c.loop.invariant ∙ rest-on (words c.args.card.now) c.args.blocks c.loop.next (c.args.n - c.loop.counter) (omega arith) (omega arith))

pub returns-then-n-gt0 : goal.returns-then-n-gt0
returns-then-n-gt0 c =
    let W = words c.args.card.now in
    sym (rule-rest W c.args.blocks c.args.first c.args.n c.if-n-gt0.true ∙ c.loop.invariant ∙ rest_end W c.args.blocks c.loop.next (c.args.n - c.loop.counter) (omega arith))

pub returns-else-n-gt0 : goal.returns-else-n-gt0
returns-else-n-gt0 c =
    le-ltb 0 c.args.n (omega arith) ∙ sym (rule-none (words c.args.card.now) c.args.blocks c.args.first c.args.n (omega arith))
