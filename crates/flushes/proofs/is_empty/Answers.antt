use Rattle.lists.proofs.Prelude.{◌≡◌, sym, ap, ◌∙◌, ℕ, arith, eqb, length, length-take-le, rules, unmapped, empty-length}
use Rattle.state.specs.Views.{buffered}
use Rattle.flushes.proofs.is_empty.Goals as goal

pub returns : goal.returns
returns c =
    let b = c.args.b in
    let long : length b.postings ≡ 128 = search (unmapped, rules) in
    let used : length (buffered b) ≡ b.used = length-take-le b.used b.postings (omega (arith, c.requires)) in
    ap (λ (n : ℕ). eqb n 0) (sym used) ∙ empty-length (buffered b)
