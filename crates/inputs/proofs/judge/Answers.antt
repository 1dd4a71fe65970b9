-- `inputs::judge` meets its contract: the walk over the opened heads tells what is told of the inputs.
use Rattle.lists.proofs.Prelude.{sym, ◌∙◌, arith}
use Rattle.words.specs.Words.{words}
use Rattle.words.proofs.Views.{words-below}
use Rattle.state.specs.Views.{finished}
use Rattle.inputs.proofs.Judged.{judged-unspanned, told-judged}
use Rattle.inputs.proofs.judge.Goals as goal

pub returns-then-not-spans_ok : goal.returns-then-not-spans_ok
returns-then-not-spans_ok c =
    (sym (judged-unspanned (words c.args.card.now) (finished c.args.ps) (sym c.spans_ok.ensures ∙ c.if-not-spans_ok.true)), tt)

pub walk-requires : goal.walk-requires
walk-requires c =
    let o = c.open_heads-top in
    (record { few = c.requires.0; fits = omega (arith, o.ensures.0, c.requires.2); kept = o.ensures.1; top = o.ensures.3 }, c.requires.4)

pub returns : goal.returns
returns c =
    let W = words c.args.card.now in
    let small = words-below c.args.card.now (λ i. omega (arith, c.type_inv.card i)) in
    let o = c.open_heads-top in
    let ps = c.args.ps in
    told-judged W small (finished ps) ps.used o.new.heads o.ensures.1 o.ensures.2 (sym c.spans_ok.ensures ∙ c.if-not-spans_ok.false) c.walk.result _ c.walk.ensures.0 c.walk.ensures.1
