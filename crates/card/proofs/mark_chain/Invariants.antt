-- `card::mark_chain` meets its contract. The invariant: what was asked of the chain and the first marks is what is to be asked of the blocks that
-- are left and the marks by now.
use Rattle.lists.proofs.Prelude.{◌||◌, ◌≡◌, ℕ, ◌-◌, elem}
use Rattle.words.specs.Words.{words}
use Rattle.card.specs.Chains.{chain}
use Rattle.card.specs.Cursors.{Chained}
use Rattle.card.specs.Marks.{marked, unmarked}
use Rattle.card.proofs.mark_chain.Given as goal

abbrev pub invariant-loop : goal.invariant-loop
invariant-loop l = record {
  chained : Chained (words l.card) l.next (l.n - l.counter);
  apart : unmarked l.fn.m (chain (words l.card) l.first l.n) ≡ unmarked l.marks (chain (words l.card) l.next (l.n - l.counter));
  marks : (b : ℕ) → (marked l.fn.m b || elem b (chain (words l.card) l.first l.n)) ≡ (marked l.marks b || elem b (chain (words l.card) l.next (l.n - l.counter)));
}
