-- `merges::finish` meets its contract.
use Rattle.lists.proofs.Prelude.{List, ⊎_elim, ◌≡◌, sym, ap, ap₂, ◌∙◌, ℕ, suc, ◌+◌, ◌*◌, ◌%◌, ◌<◌, arith, leb, length, get_or}
use Rattle.words.specs.Words.{words, bytes}
use Rattle.words.proofs.Views.{bytes-words}
use Rattle.state.specs.declared.State.{State}
use Rattle.state.specs.Views.{finished}
use Rattle.card.specs.Chains.{chain}
use Rattle.blocks.specs.Writes.{store}
use Rattle.blocks.proofs.Stores.{length-store}
use Rattle.plans.specs.Merging.{inputs, taking, output_level, is_last, output_content}
use Rattle.plans.specs.Step.{written_on}
use Rattle.plans.specs.Acting.{output_written, Due}
use Rattle.levels.proofs.Choosing.{finished-of}
use Rattle.plans.proofs.Drafting.{inputs-few, inputs-free, none-stored, step_fits, step-stored, step_kept, step-more, step-last, last-told}
use Rattle.merges.proofs.finish.Goals as goal
use Rattle.merges.proofs.finish.Lts as lts
use Rattle.merges.proofs.finish.Tie as tie
use Rattle.merges.proofs.finish.Reads as reads

abbrev Joined1 : Type 0
Joined1 = lts.Joined1 tie.the-claims reads.Pre reads.Post

abbrev Dues : Joined1 → State → Type 0
Dues i st =
    Due (words i.args.card.now) st i.args.is i.args.t i.args.counts.now i.args.o i.args.b

abbrev content : Joined1 → State → List ℕ
content i st = output_content st (taking (words i.args.card.now) st) (suc st.merge.steps)

abbrev stored : Joined1 → State → List ℕ
stored i st = let a = i.args in store (words a.card.now) (chain (words a.card.now) a.o.first a.o.blocks) (content i st)

kept : (i : Joined1) → length i.if-o-gt0.card ≡ length i.args.card.now
kept i = ⊎_elim {C = length i.if-o-gt0.card ≡ length i.args.card.now} (λ w. ap length w.card-is ∙ w.put_output.auto.card) (λ w. ap length w.card-is) i.if-o-gt0.branch-raw

-- whether the step is the last
told : (i : Joined1) (st : State) → Dues i st → i.args.steps ≡ st.merge.steps
    → i.is_last-last.result ≡ is_last (taking (words i.args.card.now) st) (suc st.merge.steps)
told i st d es =
    let a = i.args in
    i.is_last-last.ensures ∙ ap (λ m. leb a.t.pairs (16 * m + a.b.taken)) es ∙ last-told (words a.card.now) st a.is a.t d.judged a.o a.b d.acts

-- the card
wrote : (i : Joined1) (st : State) → Dues i st → i.args.steps ≡ st.merge.steps → i.args.level ≡ output_level st → words i.if-o-gt0.card ≡ stored i st
wrote i st d es el =
    let a = i.args in
    let W = words a.card.now in
    ⊎_elim {C = words i.if-o-gt0.card ≡ stored i st}
    (λ w. ap words w.card-is ∙ w.put_output.ensures ∙ ap₂ (λ l v. output_written W l v a.t a.counts.now a.o a.b) (told i st d es) el
    ∙ step-stored W st a.is a.t d.judged a.o a.b d.acts w.if-o-gt0.true a.counts.now d.counts)
    (λ w. ap words w.card-is ∙ none-stored W st a.is a.t d.judged a.o a.b d.acts (content i st) (omega (arith, w.if-o-gt0.false)))
    i.if-o-gt0.branch-raw

pub put_output-requires : goal.put_output-requires
put_output-requires c =
    let d = c.requires.1 in
    (c.requires.0, step_fits (words c.args.card.now) d.state c.args.is c.args.t d.due.judged c.args.o c.args.b d.due.acts c.if-o-gt0.true c.args.counts.now d.due.counts)

pub release_inputs-requires : goal.release_inputs-requires
release_inputs-requires c =
    let a = c.before.before.before.args in
    let d = c.before.before.before.requires.1 in
    let W = words a.card.now in
    let g = d.due.judged in
    let f = ap finished g.are ∙ finished-of (inputs d.state) in
    let w = wrote c.before.before.before d.state d.due d.steps d.level in
    let y = inputs-free W d.state a.is a.t g (stored c.before.before.before d.state) (length-store W _ (content c.before.before.before d.state)) (step_kept W d.state a.is a.t g a.o a.b d.due.acts (content c.before.before.before d.state)) in
    (omega (arith, kept c.before.before.before, c.before.before.before.requires.0), omega (arith, inputs-few W d.state a.is a.t g), rw (f, w) y.0, rw (f, w) y.1)

pub shape_of-card-then-last : goal.shape_of-card-then-last
shape_of-card-then-last c = c.release_inputs.auto.card ∙ kept c.before.before.before.before.before.before

pub returns-then-last : goal.returns-then-last
returns-then-last c =
    let a = c.before.before.before.before.before.before.args in
    let W = words a.card.now in
    let freed = c.release_inputs in
    let q : length freed.new.card % 4 ≡ 0 = omega (arith, freed.auto.card, kept c.before.before.before.before.before.before, c.before.before.before.before.before.before.requires.0) in
    record {
      last = told c.before.before.before.before.before.before;
      card = λ st d es el.
          let g = d.judged in
          let f = ap finished g.are ∙ finished-of (inputs st) in
          let y = inputs-free W st a.is a.t g (stored c.before.before.before.before.before.before st) (length-store W _ (content c.before.before.before.before.before.before st)) (step_kept W st a.is a.t g a.o a.b d.acts (content c.before.before.before.before.before.before st)) in
          let v : words freed.new.card ≡ written_on W st (taking W st) (suc st.merge.steps) (chain W a.o.first a.o.blocks) =
          freed.ensures ∙ rw (f, wrote c.before.before.before.before.before.before st d es el, y.2) (step-last W st a.is a.t g a.o a.b d.acts (sym (told c.before.before.before.before.before.before st d es) ∙ c.if-last.true)) in
          sym (bytes-words freed.new.card (λ n. omega (arith, c.slice_known-then-last-1.given n)) q) ∙ ap bytes v;
    }

pub returns-else-last : goal.returns-else-last
returns-else-last c =
    let a = c.before.before.args in
    let W = words a.card.now in
    let m : length c.if-o-gt0.card % 4 ≡ 0 = omega (arith, kept c.before.before, c.before.before.requires.0) in
    let low : (n : ℕ) → get_or c.if-o-gt0.card n 0 < 256 =
    λ n. ⊎_elim (λ u. rw u.card-is (omega (arith, u.slice_known-then-o-gt0-1.given n))) (λ u. rw u.card-is (omega (arith, c.slice_known-1.given n))) c.if-o-gt0.branch-raw in
    record {
      last = told c.before.before;
      card = λ st d es el.
          sym (bytes-words c.if-o-gt0.card low m)
          ∙ ap bytes (wrote c.before.before st d es el ∙ step-more W st a.is a.t d.judged a.o a.b d.acts (sym (told c.before.before st d es) ∙ c.if-last.false));
    }

pub shape_of-card-else-last : goal.shape_of-card-else-last
shape_of-card-else-last c = kept c.before.before
