-- `inputs::next_pair` meets its contract: the pair of the greatest key is the next.
use mir.Facts.{to_z-of_z}
use mir.Syntax.{w32}
use mir.Val.{SFits}
use Rattle.lists.proofs.Prelude.{◌≡◌, sym, ap, ◌∙◌, ◌∷◌, suc, ◌-◌, arith, rules}
use Rattle.keyed.specs.Keys.{head_vals}
use Rattle.words.specs.Words.{words}
use Rattle.words.proofs.Views.{words-below}
use Rattle.postings.specs.declared.Posting.{Posting}
use Rattle.scans.specs.Keys.{posting_of}
use Rattle.scans.specs.Heads.{views}
use Rattle.inputs.specs.Ahead.{pairs_ahead, Ready}
use Rattle.inputs.proofs.Taking.{top-low, first_range, ahead_more, formed-more}
use Rattle.inputs.proofs.next_pair.Goals as goal

pub take-moved-requires : goal.take-moved-requires
take-moved-requires c =
    let r = c.requires.0.ready in
    (r.fits, omega (arith, r.few), omega arith, r.kept)

pub pair_of-requires : goal.pair_of-requires
pair_of-requires c =
    let W = words c.args.card.now in
    let small = words-below c.args.card.now (λ k. omega (arith, c.shared_slice_known-1.given k)) in
    let t = c.take-moved in
    let f : SFits w32 t.result.sum = search rules in
    let is : c.args.top ≡ suc (c.args.top - 1) = omega (arith, c.requires.1) in
    let low = top-low W small c.args.n c.args.heads.now c.args.top c.requires.0 in
    (omega arith, rw (to_z-of_z f, t.ensures.taken.0) (first_range W small c.args.n c.args.heads.now c.args.top c.requires.0 (c.args.top - 1) is))

pub returns : goal.returns
returns c =
    let W = words c.args.card.now in
    let small = words-below c.args.card.now (λ k. omega (arith, c.shared_slice_known-1.given k)) in
    let t = c.take-moved in
    let n = c.args.n in
    let H = c.args.heads.now in
    let k = c.args.top - 1 in
    let f : SFits w32 t.result.sum = search rules in
    let is : c.args.top ≡ suc k = omega (arith, c.requires.1) in
    let H' = t.new.heads in
    let ready : Ready W n H' t.result.next = record { few = c.requires.0.ready.few; fits = omega (arith, t.ensures.heads.0, c.requires.0.ready.fits); kept = t.ensures.heads.1; top = t.ensures.taken.2 } in
    let p : c.pair_of.result ≡ posting_of (record { key = k; sum = head_vals k (views W n H) }) = c.pair_of.ensures ∙ rw (to_z-of_z f, t.ensures.taken.0) in (
      ahead_more W small n H c.args.top c.requires.0 k is H' t.result.next ready t.ensures.heads.2 ∙ ap (λ (x : Posting). x ∷ pairs_ahead W n H') (sym p),
      formed-more W small n H c.args.top c.requires.0 k is H' t.result.next ready t.ensures.heads.2,
    )
