-- `capi::gemsilver_start` meets its contract.
use Rattle.lists.proofs.Prelude.{eq-eqb, ne_eqb}
use Rattle.numbers.specs.Images.{imaged}
use Rattle.capi.proofs.Carried.{start-short, on-start}
use Rattle.capi.proofs.gemsilver_start.Goals as goal

pub returns-then-image-ne-BYTES : goal.returns-then-image-ne-BYTES
returns-then-image-ne-BYTES c = start-short _ (ne_eqb _ _ c.if-image-ne-BYTES.true)

pub returns : goal.returns
unfolding imaged
returns c =
    let s = c.args in
    let r = c.start-r in
    rw (c.write_state.ensures, c.reply_number.ensures)
    (on-start s.image.now s.card.now s.register.now (eq-eqb _ _ c.if-image-ne-BYTES.false) _ r.result.state r.new.card r.new.register r.ensures)
