-- `card::seek` meets its contract. The invariant: what is sought is the same number of words in the content of the blocks still to come, past `k`.
-- Each turn passes over one block.
use Rattle.lists.proofs.Prelude.{◌≡◌, ◌-◌, ◌*◌, take, drop}
use Rattle.words.specs.Words.{words}
use Rattle.card.specs.Chains.{chain, content}
use Rattle.card.specs.Cursors.{Chained}
use Rattle.card.proofs.seek.Given as goal

abbrev pub invariant-loop : goal.invariant-loop
invariant-loop l = record {
  chained : Chained (words l.card) l.block (l.n - l.counter);
  same : take l.left (drop (l.offset - 1023 * l.counter) (content (words l.card) (chain (words l.card) l.block (l.n - l.counter))))
      ≡ take l.left (drop l.offset (content (words l.card) (chain (words l.card) l.first l.n)));
}
