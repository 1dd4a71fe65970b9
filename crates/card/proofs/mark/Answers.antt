-- `card::mark` meets its contract: one bit is set in one word.
use Rattle.lists.proofs.Prelude.{◌≡◌, arith, length, ◌%◌, rules}
use Rattle.card.specs.Marks.{marked}
use Rattle.card.proofs.Marking.{bits-set, one_at}
use Rattle.card.proofs.mark.Goals as goal

pub returns : goal.returns
unfolding marked
returns c = λ b.
    let e : length c.args.m.bits ≡ 64 = search rules in
    rw (one_at (c.args.block % 64) 64 (omega arith)) (bits-set 64 c.args.m.bits c.args.block b (omega arith))
