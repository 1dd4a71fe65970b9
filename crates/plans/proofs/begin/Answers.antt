-- `plans::begin` meets its contract.
use Rattle.lists.proofs.Prelude.{not, refl, sym, ap, ◌∙◌, suc, arith, not-true, not-false, eq-eqb, leb-true, length, take}
use Rattle.words.specs.Words.{words, bytes}
use Rattle.postings.specs.Merge.{nonzero}
use Rattle.state.specs.Views.{blocks, finished}
use Rattle.card.specs.Blocks.{free_blocks}
use Rattle.card.specs.Chains.{blocks_for}
use Rattle.plans.specs.Merging.{inputs, taking}
use Rattle.windows.proofs.Outcomes.{passed}
use Rattle.levels.proofs.Choosing.{finished-of}
use Rattle.plans.proofs.Drafting.{readable, inputs-few}
use Rattle.plans.proofs.Refusing.{pairs-read}
use Rattle.plans.proofs.Beginning.{next-free, same-pairs, judged-linked, acts-linked, written-linked}
use Rattle.plans.proofs.Stepping.{begin-few, begin-none, begin-done, state-told}
use Rattle.plans.proofs.begin.Goals as goal

pub returns-then-not-enough_free : goal.returns-then-not-enough_free
returns-then-not-enough_free c =
    let W = words c.args.card.now in
    let k = c.blocks_for-n.result in
    let nn = c.blocks_for-n.ensures ∙ ap blocks_for c.output_length.ensures in
    let idle = ap not (eq-eqb c.args.s.merge.steps 0 c.requires.4) in
    let e = sym c.enough_free.ensures ∙ not-true _ c.if-not-enough_free.true-raw in
    record { same = refl; told = passed _ 3 _ (rw idle) (begin-few W c.args.s c.args.is c.args.t c.requires.1 c.args.card.now idle (rw nn at e)) }

pub returns-then-is-eq0 : goal.returns-then-is-eq0
returns-then-is-eq0 c =
    let W = words c.args.card.now in
    let k = c.blocks_for-n.result in
    let nn = c.blocks_for-n.ensures ∙ ap blocks_for c.output_length.ensures in
    let idle = ap not (eq-eqb c.args.s.merge.steps 0 c.requires.4) in
    let e = sym c.enough_free.ensures ∙ not-false _ c.if-not-enough_free.false-raw in
    let l = leb-true k (length (free_blocks W (blocks c.args.s) c.args.s.taken)) e in
    record { same = refl; told = passed _ 3 _ (rw idle) (begin-none W c.args.s c.args.is c.args.t c.requires.1 c.args.card.now idle (rw nn at e) c.if-is-eq0.true) }

pub first_batch-b-requires : goal.first_batch-b-requires
first_batch-b-requires c =
    let W = words c.args.card.now in
    let k = c.blocks_for-n.result in
    let nn = c.blocks_for-n.ensures ∙ ap blocks_for c.output_length.ensures in
    let idle = ap not (eq-eqb c.args.s.merge.steps 0 c.requires.4) in
    let f = ap finished c.requires.1.are ∙ finished-of (inputs c.args.s) in
    (inputs-few W c.args.s c.args.is c.args.t c.requires.1, rw f (readable W c.args.s c.args.is c.args.t c.requires.1), rw f c.requires.2)

pub take_blocks-o-requires : goal.take_blocks-o-requires
take_blocks-o-requires c =
    let W = words c.args.card.now in
    let k = c.blocks_for-n.result in
    let nn = c.blocks_for-n.ensures ∙ ap blocks_for c.output_length.ensures in
    let idle = ap not (eq-eqb c.args.s.merge.steps 0 c.requires.4) in
    let e = sym c.enough_free.ensures ∙ not-false _ c.if-not-enough_free.false-raw in
    let l = leb-true k (length (free_blocks W (blocks c.args.s) c.args.s.taken)) e in
    (c.requires.0, c.requires.1.long, c.requires.1.few, c.requires.3, l)

pub returns : goal.returns
returns c =
    let W = words c.args.card.now in
    let st = c.args.s in
    let is = c.args.is in
    let t = c.args.t in
    let g = c.requires.1 in
    let k = c.blocks_for-n.result in
    let nn = c.blocks_for-n.ensures ∙ ap blocks_for c.output_length.ensures in
    let idle = ap not (eq-eqb st.merge.steps 0 c.requires.4) in
    let e = sym c.enough_free.ensures ∙ not-false _ c.if-not-enough_free.false-raw in
    let l = leb-true k (length (free_blocks W (blocks st) st.taken)) e in
    let bs = take k (free_blocks W (blocks st) st.taken) in
    let f = next-free W (blocks st) st.taken k l in
    let tb = c.take_blocks-o in
    let fb = c.first_batch-b in
    let read = pairs-read W st is t g in
    let x = fb.ensures.0 ∙ ap (λ q. nonzero (take 16 q)) read in
    let taken = fb.ensures.1 ∙ ap (λ q. length (take 16 q)) read in
    let a = acts-linked W st is t g k nn bs f tb.result fb.result tb.ensures.1 tb.ensures.2 tb.ensures.3 c.requires.4 x taken fb.ensures.2 in
    record {
      pairs = ap (λ U. taking U st) tb.ensures.0 ∙ same-pairs W st is t g k nn bs f;
      judged = rw tb.ensures.0 (judged-linked W st is t g k nn bs f);
      acts = rw tb.ensures.0 a;
      early = omega (arith, c.requires.4);
      done = λ end u v. passed _ 3 _ (rw idle)
          (begin-done W st is t g c.args.card.now idle (rw nn at e) c.if-is-eq0.false k nn end
          (u ∙ state-told W st is t g tb.result bs tb.ensures.1 (rw idle tb.ensures.4))
          (rw (tb.ensures.0, tb.ensures.2) at v ∙ ap bytes (written-linked W st is t g k nn bs f tb.result.first (suc st.merge.steps) tb.ensures.1)));
    }
