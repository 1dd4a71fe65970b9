use Rattle.lists.proofs.Prelude.{◌≡◌, ◌∙◌, ◌+◌, ◌*◌, arith, rules, length, length-take-le, unmapped}
use Rattle.state.specs.Views.{buffered}
use Rattle.partitions.specs.Layout.{length_of}
use Rattle.flushes.proofs.writing.flush.Goals as goal

pub append-requires : goal.append-requires
append-requires c =
    let p = c.args.ps in
    let long : length p.records ≡ 51 = search (unmapped, rules) in
    (omega (arith, c.requires.8, length-take-le p.used p.records (omega (arith, c.requires.7))), c.requires.9 long)

pub returns : goal.returns
unfolding length_of
returns c =
    let b = c.args.b in
    let w = c.write_counted-terms in
    let span = c.span_of-span.ensures in
    let long : length b.postings ≡ 128 = search (unmapped, rules) in
    let n : length (buffered b) ≡ b.used = length-take-le b.used b.postings (omega (arith, c.requires.3)) in
    let e : 32 + 12 * w.result + 4 * b.used ≡ length_of (buffered b) = omega (arith, w.ensures.0) in (
      c.append.ensures ∙ rw (e, span.0, span.1),
      w.ensures.1,
    )
