-- What sound buffers give to the tests of a query.
use Rattle.lists.proofs.Prelude.{List, ◌≡◌, ℕ, ◌*◌, ◌≤◌, arith, length}
use Rattle.words.specs.Words.{words}
use Rattle.words.proofs.Views.{length-words}
use Rattle.state.specs.declared.State.{State}
use Rattle.state.specs.Views.{blocks}
use Rattle.state.proofs.Kept.{state-kept}
use Rattle.identifiers.specs.Register.{names}
use Rattle.identifiers.proofs.Entries.{rule-formed, names-bound}
use Rattle.queries.specs.Gathered.{Sound}

module _ (s : State) (card register : List ℕ) (sound : Sound s card register) where
  -- the card has 1,024 words a block
  pub sound-words : length (words card) ≡ 1024 * blocks s
  sound-words = omega (arith, length-words card, sound.card, (state-kept s sound.rule).lengths.card)

  -- a number of the register is small
  pub sound-names : length (names register) ≤ 1024
  sound-names =
      let k = (state-kept s sound.rule).lengths in
      names-bound register (rule-formed register sound.names) (omega (arith, sound.register, k.register, k.most_entries))
