-- `flushes::finished_blocks` meets its contract. The invariant: the total so far and the blocks of the records not passed make the whole.
use Rattle.lists.proofs.Prelude.{◌≡◌, ◌+◌, ◌*◌, ◌≤◌, drop, total_by}
use Rattle.state.specs.Views.{finished}
use Rattle.card.specs.Chains.{blocks_for}
use Rattle.flushes.proofs.finished_blocks.Given as goal

abbrev pub invariant-loop-q : goal.invariant-loop-q
invariant-loop-q l = record {
  few : l.total ≤ 4294967295 * l.q-index;
  whole : total_by (λ q. blocks_for q.length) (finished l.fn.p) ≡ l.total + total_by (λ q. blocks_for q.length) (drop l.q-index l.q-items);
}
