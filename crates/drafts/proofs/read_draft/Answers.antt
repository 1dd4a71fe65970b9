-- `drafts::read_draft` meets its contract.
use Rattle.lists.proofs.Prelude.{refl, sym, ap, ap₂, ◌∙◌, ◌&&◌, ◌-◌, ◌*◌, ◌≤◌, arith, length, take, drop}
use Rattle.words.specs.Words.{words}
use Rattle.postings.specs.Merge.{nonzero, pairs}
use Rattle.state.specs.Views.{finished}
use Rattle.card.specs.Cursors.{ahead}
use Rattle.card.proofs.Cursors.{length-ahead}
use Rattle.partitions.specs.Reading.{in_partitions}
use Rattle.inputs.specs.Ahead.{out_words}
use Rattle.drafts.proofs.Comparing.{words-room, draft-left, draft-read, draft-written}
use Rattle.drafts.proofs.read_draft.Goals as goal

pub pass-p-requires : goal.pass-p-requires
pass-p-requires c =
    let W = words c.args.card.now in
    let ps = pairs (in_partitions W (finished c.args.ps)) in
    let out = c.seek-out in
    let o = c.open_inputs-top in
    let r : length (out_words c.args.passed ps) ≤ out.result.left =
    omega (arith, words-room c.args.passed ps, c.requires.5, length-ahead W out.result, draft-left W c.args.first c.args.n c.args.front c.args.passed ps c.requires.3 c.requires.5 (ahead W out.result) out.ensures.0) in
    (o.ensures.0, out.ensures.1, rw o.ensures.1 r)

pub overflow_sub-result : goal.overflow_sub-result
overflow_sub-result c =
    let W = words c.args.card.now in
    let ps = pairs (in_partitions W (finished c.args.ps)) in
    let out = c.seek-out in
    let e = c.open_inputs-top.ensures.1 in
    let p = c.pass-p in
    let m = rw e at p.ensures.0 in
    let w = draft-written W c.args.first c.args.n c.args.front c.args.passed ps c.requires.3 c.requires.5 (ahead W out.result) (ahead W p.result.out) p.result.same out.ensures.0 m in
    omega (arith, w.0, length-ahead W p.result.out)

pub returns : goal.returns
returns c =
    let W = words c.args.card.now in
    let ps = pairs (in_partitions W (finished c.args.ps)) in
    let out = c.seek-out in
    let e = c.open_inputs-top.ensures.1 in
    let p = c.pass-p in
    let m = rw e at p.ensures.0 in
    let w = draft-written W c.args.first c.args.n c.args.front c.args.passed ps c.requires.3 c.requires.5 (ahead W out.result) (ahead W p.result.out) p.result.same out.ensures.0 m in
    let head = c.seek-head in
    let space = c.rest_free-space.ensures in
    let rest = c.rest_free-rest.ensures in
    let b = c.sixteen-b.ensures in
    let on = p.ensures.1 ∙ ap (drop c.args.passed) e in (
      ap₂ ◌&&◌ (ap₂ ◌&&◌ space refl) rest
          ∙ draft-read W c.args.first c.args.n c.args.front c.args.passed ps c.requires.3 c.requires.5 (ahead W head.result) (ahead W out.result) (ahead W p.result.out) p.result.same head.ensures.0 out.ensures.0 m,
      ap (λ k. 1023 * c.args.n - c.args.front - k) (sym (length-ahead W p.result.out)) ∙ w.1,
      b.0 ∙ ap (λ l. nonzero (take 16 l)) on,
      b.1 ∙ ap (λ l. length (take 16 l)) on,
      b.2,
    )
