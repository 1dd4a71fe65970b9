use Rattle.lists.proofs.Prelude.{refl, sym, ◌∙◌, arith}
use Rattle.texts.proofs.Reading.{none-long, start-reading, room, no_digit, on-digit, all_read}
use Rattle.texts.proofs.read_number.Goals as goal

pub returns-then-not-field : goal.returns-then-not-field
returns-then-not-field c = none-long _ c.if-not-field.true

pub loop-b-init : goal.loop-b-init
loop-b-init c = start-reading _ c.if-not-field.false

pub returns-then-not-is_ascii_digit : goal.returns-then-not-is_ascii_digit
returns-then-not-is_ascii_digit c =
    no_digit c.loop-b.invariant _ (omega arith) refl (sym c.is_ascii_digit.ensures.value ∙ c.if-not-is_ascii_digit.true)

pub loop-b-preserved : goal.loop-b-preserved
loop-b-preserved c =
    on-digit c.loop-b.invariant _ (omega arith) refl (sym c.is_ascii_digit.ensures.value ∙ c.if-not-is_ascii_digit.false)

pub overflow_mul-n : goal.overflow_mul-n
overflow_mul-n c = omega (arith, room c.loop-b.invariant (omega arith))

pub returns : goal.returns
returns c = all_read c.loop-b.invariant (omega arith)
