-- `commands::order_of` meets its contract.
use Rattle.lists.proofs.Prelude.{arith, refl}
use Rattle.commands.proofs.Orders.{without-fields, without-letter, one_field, two_fields, more-fields, asks, unknown, none_more}
use Rattle.commands.proofs.order_of.Goals as goal

pub returns-then-parts-eq0 : goal.returns-then-parts-eq0
returns-then-parts-eq0 c = without-fields c.args.parts.now c.if-parts-eq0.true

pub returns-then-name-ne1 : goal.returns-then-name-ne1
returns-then-name-ne1 c = without-letter c.args.parts.now c.if-name-ne1.true

pub returns-then-parts-eq1 : goal.returns-then-parts-eq1
returns-then-parts-eq1 c = one_field c.args.parts.now _ _ c.if-name-ne1.false refl (omega arith) c.single.ensures

pub returns-then-parts-eq2 : goal.returns-then-parts-eq2
returns-then-parts-eq2 c = two_fields c.args.parts.now _ _ c.if-name-ne1.false refl (omega arith) c.double.ensures

pub returns-then-letter-eq81 : goal.returns-then-letter-eq81
returns-then-letter-eq81 c = more-fields c.args.parts.now _ _ c.if-name-ne1.false refl (omega arith) (λ g fs. asks _ _ _ _ c.if-letter-eq81.true c.asking.ensures)

pub returns : goal.returns
returns c = more-fields c.args.parts.now _ _ c.if-name-ne1.false refl (omega arith) (λ g fs. unknown _ _ (none_more _ _ g fs c.if-letter-eq81.false))
