-- What a judged flush finds: a free block on the card, room in the list of partitions, and counts that fit.
use Rattle.lists.proofs.Prelude.{true, cond, List, [], ◌∷◌, ◌≡◌, refl, ℕ, zero, suc, ◌+◌, ◌<◌, ◌≤◌, arith, eqb, leb, length, leb-true, le-leb, every, by-test, and_left, and_right, every-from}
use Rattle.postings.specs.declared.Posting.{Posting}
use Rattle.state.specs.declared.Windows.{Windows}
use Rattle.state.specs.declared.Partition.{Partition}
use Rattle.state.specs.declared.Partitions.{Partitions}
use Rattle.state.specs.declared.State.{State}
use Rattle.state.specs.Views.{blocks, finished}
use Rattle.state.specs.Levels.{level_limit, of_level}
use Rattle.state.specs.Rules.{posting_rule, record_rule}
use Rattle.state.proofs.Kept.{PartitionsKept, record-kept, posting-kept}
use Rattle.levels.proofs.Replaced.{at-levels}
use Rattle.card.specs.Blocks.{is_free}
use Rattle.blocks.proofs.FreeBlocks.{free-at}
use Rattle.partitions.specs.Formed.{in_range}
use Rattle.flushes.specs.Targets.{Chosen}

-- ---- how many partitions there are, by levels

-- how many of level v
abbrev count : ℕ → List Partition → ℕ
count v ps = of_level (λ (q : Partition). q.level) v ps

-- one where the levels agree
abbrev one : ℕ → ℕ → ℕ
one l v = cond (eqb l v) 1 0

count-more : (v : ℕ) (q : Partition) (ps : List Partition) → count v (q ∷ ps) ≡ one q.level v + count v ps
count-more v q ps = by-test (eqb q.level v) (λ y. rw y (omega arith)) (λ n. rw n (omega arith))

one-level : (l : ℕ) → l ≤ 5 → one l 0 + one l 1 + one l 2 + one l 3 + one l 4 + one l 5 ≡ 1
one-level zero h = refl
one-level (suc zero) h = refl
one-level (suc (suc zero)) h = refl
one-level (suc (suc (suc zero))) h = refl
one-level (suc (suc (suc (suc zero)))) h = refl
one-level (suc (suc (suc (suc (suc zero))))) h = refl
one-level (suc (suc (suc (suc (suc (suc l)))))) h = absurd (omega arith)

-- each partition is of one of the six levels
length-levels : (ps : List Partition) → every (λ q. leb q.level 5) ps ≡ true → length ps ≡ count 0 ps + count 1 ps + count 2 ps + count 3 ps + count 4 ps + count 5 ps
length-levels [] e = refl
length-levels (q ∷ ps) e =
    let r = length-levels ps (and_right (leb q.level 5) _ e) in
    let o = one-level q.level (leb-true _ _ (and_left (leb q.level 5) _ e)) in
    omega (arith, count-more 0 q ps, count-more 1 q ps, count-more 2 q ps, count-more 3 q ps, count-more 4 q ps, count-more 5 q ps)

-- so with room at level 0 there is room in the list
pub room-left : (n : ℕ) (p : Partitions) → PartitionsKept n p → of_level (λ (q : Partition). q.level) 0 (finished p) < 16 → length (finished p) < 51
room-left n p k h =
    let within = at-levels (λ v. leb (count v (finished p)) (level_limit v)) k.limits in
    let low = every-from (record_rule n) (record_rule n) (λ q. leb q.level 5) (λ q e f. le-leb _ _ (record-kept n q e).level) (finished p) k.rules k.rules in
    let a : count 1 (finished p) ≤ 8 = leb-true _ _ (within 1 (omega arith)) in
    let b : count 2 (finished p) ≤ 8 = leb-true _ _ (within 2 (omega arith)) in
    let c : count 3 (finished p) ≤ 8 = leb-true _ _ (within 3 (omega arith)) in
    let d : count 4 (finished p) ≤ 8 = leb-true _ _ (within 4 (omega arith)) in
    let e : count 5 (finished p) ≤ 3 = leb-true _ _ (within 5 (omega arith)) in
    omega (arith, length-levels (finished p) low)

-- ---- the block

-- the chosen block is one of the card's
pub chosen-there : (s : State) (W : List ℕ) (b : ℕ) → Chosen s W b → b < blocks s
chosen-there s W b c = rw c.block (free-at W (blocks s) s.taken 0 c.there).0

-- and free
pub chosen-free : (s : State) (W : List ℕ) (b : ℕ) → Chosen s W b → is_free W b ≡ true
chosen-free s W b c = rw c.block (free-at W (blocks s) s.taken 0 c.there).1

-- ---- the counts

-- buffered counts fit a posting
pub counts-fit : (w : Windows) (l : List Posting) → every (posting_rule w) l ≡ true → every (λ p. in_range p.count) l ≡ true
counts-fit w l e = every-from (posting_rule w) (posting_rule w) (λ p. in_range p.count) (λ p f g. le-leb _ _ (posting-kept w p f).small) l e e

-- and buffered identifiers a register
pub ids-fit : (w : Windows) (l : List Posting) → every (posting_rule w) l ≡ true → every (λ p. leb p.id 1023) l ≡ true
ids-fit w l e = every-from (posting_rule w) (posting_rule w) (λ p. leb p.id 1023) (λ p f g. le-leb _ _ (posting-kept w p f).id) l e e
