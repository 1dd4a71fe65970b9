use Rattle.lists.proofs.Prelude.{◌≡◌, sym, ◌∙◌, ℕ, suc, ◌+◌, ◌*◌, ◌≤◌, ◌<◌, arith, total_by}
use Rattle.words.specs.Words.{words}
use Rattle.words.proofs.Views.{length-words}
use Rattle.state.specs.declared.Partition.{Partition}
use Rattle.state.specs.declared.State.{State}
use Rattle.state.specs.Views.{blocks, finished}
use Rattle.state.proofs.Kept.{state-kept}
use Rattle.card.specs.Blocks.{free_blocks}
use Rattle.card.specs.Chains.{blocks_for}
use Rattle.flushes.specs.Flush.{finished_blocks}
use Rattle.flushes.proofs.Targets.{idle, level-full, half_full, none_free, first-free, block-found, none_found}
use Rattle.flushes.proofs.target_of.Goals as goal

-- refusal 11 by the sum of the code
module _ (s : State) (n : ℕ) (e : n ≡ total_by (λ (q : Partition). blocks_for q.length) (finished s.partitions)) where
  unfold-total : blocks s < 2 * n + 2 → blocks s < 2 * suc (finished_blocks s)
  unfolding finished_blocks
  unfold-total h = omega arith

  unfold-within : 2 * n + 2 ≤ blocks s → 2 * suc (finished_blocks s) ≤ blocks s
  unfolding finished_blocks
  unfold-within h = omega arith

pub is_empty-requires : goal.is_empty-requires
is_empty-requires c = (state-kept c.args.s c.requires.0).buffer.used

pub returns-then-wanted-is_empty : goal.returns-then-wanted-is_empty
returns-then-wanted-is_empty c =
    let s = c.args.s in
    idle s c.args.card.now c.args.wanted (rw c.is_empty.ensures at c.if-wanted-is_empty.true)

pub of_level-requires : goal.of_level-requires
of_level-requires c =
    (state-kept c.args.s c.requires.0).partitions.used

pub returns-then-of_level-ge16 : goal.returns-then-of_level-ge16
returns-then-of_level-ge16 c =
    let s = c.args.s in
    let level = c.of_level.ensures in
    level-full s c.args.card.now c.args.wanted (rw c.is_empty.ensures at c.if-wanted-is_empty.false) (omega (arith, c.if-of_level-ge16.true))

pub finished_blocks-requires : goal.finished_blocks-requires
finished_blocks-requires c =
    (state-kept c.args.s c.requires.0).partitions.used

pub returns-then-finished_blocks-blocks : goal.returns-then-finished_blocks-blocks
returns-then-finished_blocks-blocks c =
    let s = c.args.s in
    let level = c.of_level.ensures in
    let total = c.finished_blocks.ensures.1 in
    half_full s c.args.card.now c.args.wanted (rw c.is_empty.ensures at c.if-wanted-is_empty.false) (omega (arith, c.if-of_level-ge16.false)) (unfold-total s _ total c.if-finished_blocks-blocks.true)

pub next_free-requires : goal.next_free-requires
next_free-requires c =
    let k = state-kept c.args.s c.requires.0 in
    (omega (arith, length-words c.args.card.now, k.lengths.card, c.requires.1), k.lengths.most_blocks, omega (arith, k.taken))

pub returns-in-Some : goal.returns-in-Some
returns-in-Some c =
    let s = c.args.s in
    let level = c.of_level.ensures in
    let total = c.finished_blocks.ensures.1 in
    let card = c.args.card.now in
    let found = block-found (free_blocks (words card) (blocks s) s.taken) c.in-Some.b (sym c.in-Some.is ∙ c.next_free.ensures) in
    first-free s card c.args.wanted (rw c.is_empty.ensures at c.if-wanted-is_empty.false) (omega (arith, c.if-of_level-ge16.false)) (unfold-within s _ total c.if-finished_blocks-blocks.false) found.0 _ found.1

pub returns-in-None : goal.returns-in-None
returns-in-None c =
    let s = c.args.s in
    let level = c.of_level.ensures in
    let total = c.finished_blocks.ensures.1 in
    let card = c.args.card.now in
    let none = none_found (free_blocks (words card) (blocks s) s.taken) (sym c.in-None.is ∙ c.next_free.ensures) in
    none_free s card c.args.wanted (rw c.is_empty.ensures at c.if-wanted-is_empty.false) (omega (arith, c.if-of_level-ge16.false)) (unfold-within s _ total c.if-finished_blocks-blocks.false) none
