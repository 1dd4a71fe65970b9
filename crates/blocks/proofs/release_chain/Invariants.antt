-- `blocks::release_chain` meets its contract. The invariant: freeing the blocks that are left gives the card with the whole chain freed; they are
-- different blocks of the card.
use Rattle.lists.proofs.Prelude.{true, ◌≡◌, ◌-◌, different}
use Rattle.words.specs.Words.{words}
use Rattle.card.specs.Chains.{chain}
use Rattle.card.specs.Cursors.{Chained}
use Rattle.blocks.specs.Writes.{release}
use Rattle.blocks.proofs.release_chain.Given as goal

abbrev pub invariant-loop : goal.invariant-loop
invariant-loop l = record {
  chained : Chained (words l.card) l.next (l.n - l.counter);
  apart : different (chain (words l.card) l.next (l.n - l.counter)) ≡ true;
  freed : release (words l.initial.card) (chain (words l.initial.card) l.first l.n) ≡ release (words l.card) (chain (words l.card) l.next (l.n - l.counter));
}
