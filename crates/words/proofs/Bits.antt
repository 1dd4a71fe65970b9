-- Masks and shifts as plain arithmetic.
use Rattle.lists.proofs.Prelude.{◌≡◌, ◌∙◌, ℕ, ◌*◌, ◌/◌, ◌<◌, arith}
use lib.Bits.{bit_and, and_high}

-- the top bit of a half word, which holds a sign
pub top_bit : (n : ℕ) → n < 65536 → bit_and n 32768 ≡ n / 32768 * 32768
top_bit n h = and_high n 1 15 ∙ (omega arith)
