-- `inputs::kept` meets its contract: a sum of 0, and another at the next place.
use Rattle.lists.proofs.Prelude.{true, false, append-nil, ◌≡◌, sym, ◌∙◌, add-one, arith, rules, length, take-suc-set, unmapped}
use Rattle.postings.specs.Merge.{is_zero, nonzero}
use Rattle.inputs.specs.Ahead.{batched}
use Rattle.inputs.proofs.kept.Goals as goal

pub returns-then-is_zero : goal.returns-then-is_zero
unfolding nonzero
returns-then-is_zero c =
    let e : is_zero c.args.p.count ≡ true = sym c.is_zero.ensures ∙ c.if-is_zero.true in
    (rw e (sym (append-nil (batched c.args.b))), omega arith)

pub returns : goal.returns
unfolding nonzero
returns c =
    let e : is_zero c.args.p.count ≡ false = sym c.is_zero.ensures ∙ c.if-is_zero.false in
    let len : length c.args.b.pairs ≡ 16 = search (unmapped, rules) in
    (rw (e, add-one c.args.b.used, take-suc-set c.args.b.pairs c.args.b.used c.args.p (omega arith)), omega arith)
