-- `plans::go_on` meets its contract.
use Rattle.lists.proofs.Prelude.{not, refl, ap, ◌∙◌, arith, ne_eqb}
use Rattle.words.specs.Words.{words}
use Rattle.card.specs.Chains.{blocks_for}
use Rattle.windows.proofs.Outcomes.{stopped, passed}
use Rattle.plans.proofs.Stepping.{rule-early, go-done, state-told, first-told}
use Rattle.plans.proofs.go_on.Goals as goal

pub returns-in_default : goal.returns-in_default
returns-in_default c =
    let busy = ap not (ne_eqb c.args.s.merge.steps 0 (λ z. omega (arith, c.requires.2))) in
    record { same = refl; told = stopped _ 3 _ (rw busy (ap not c.in_default.ensures)) }

pub returns : goal.returns
returns c =
    let W = words c.args.card.now in
    let st = c.args.s in
    let is = c.args.is in
    let t = c.args.t in
    let g = c.requires.0 in
    let k = c.blocks_for.result in
    let nn = c.blocks_for.ensures ∙ ap blocks_for c.output_length.ensures in
    let y = c.in-Some.ensures.0 in
    let a = c.in-Some.ensures.1 in
    let e = rule-early W st is t g y in
    let busy = ap not (ne_eqb st.merge.steps 0 (λ z. omega (arith, c.requires.2))) in
    let f = first-told W st is t g _ _ a in
    record {
      pairs = refl;
      judged = g;
      acts = rw nn a;
      early = omega (arith, e, g.small.pairs);
      done = λ end u v. passed _ 3 _ (rw busy (ap not y)) (go-done W st is t g c.args.card.now busy k nn end (u ∙ state-told W st is t g _ _ (rw nn f) (rw busy)) v);
    }
