use Rattle.lists.proofs.Prelude.{◌≡◌, ap, ◌∙◌, arith, length, length-take-le, rules, unmapped}
use Rattle.state.specs.Views.{buffer_of}
use Rattle.state.proofs.Kept.{buffer-kept}
use Rattle.buffer.proofs.Canonical.{rule-canonical}
use Rattle.events.proofs.Pairs.{pair-addable, pair-kept}
use Rattle.events.proofs.counting.count_pair.Goals as goal

pub add-requires : goal.add-requires
add-requires c =
    let a = c.args in
    let b = a.b in
    let long : length b.postings ≡ 128 = search (unmapped, rules) in
    let k = buffer-kept a.w b c.requires.0 in (
      rule-canonical a.w b c.requires.0 long,
      pair-addable a.w b a.i c.requires.0 c.requires.1 (λ e. omega (arith, c.requires.2 e, length-take-le b.used b.postings (omega (arith, k.used)))),
    )

pub returns : goal.returns
returns c = c.add.ensures ∙ ap buffer_of (pair-kept c.args.w c.args.b c.args.i c.requires.0)
