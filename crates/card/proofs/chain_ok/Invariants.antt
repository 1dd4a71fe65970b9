-- `card::chain_ok` meets its contract. The invariant: the rule of the chain is the rule of the blocks that are left from `next` on.
use Rattle.lists.proofs.Prelude.{◌≡◌, ◌-◌}
use Rattle.words.specs.Words.{words}
use Rattle.card.proofs.Chains.{rest_rule}
use Rattle.card.proofs.chain_ok.Given as goal

abbrev pub invariant-loop : goal.invariant-loop
invariant-loop l = rest_rule (words l.card) l.blocks l.first l.n ≡ rest_rule (words l.card) l.blocks l.next (l.n - l.counter)
