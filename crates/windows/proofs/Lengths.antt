-- What the limits of the buffers' lengths say.
use Rattle.lists.proofs.Prelude.{true, ◌&&◌, ◌≡◌, ℕ}
use Rattle.state.specs.Rules.{card_length, register_length, lengths_rule}
use Rattle.state.proofs.Kept.{LengthsKept, lengths-kept}

-- lengths that a start accepts
pub lengths-started : (card register : ℕ) → (card_length card && register_length register) ≡ true → LengthsKept (record { card = card; register = register })
unfolding lengths_rule
lengths-started card register e = lengths-kept (record { card = card; register = register }) e
