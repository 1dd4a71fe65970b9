-- The blocks of finished partitions and of the output in progress are together at most the card's.
use Rattle.lists.proofs.Prelude.{true, false, ◌&&◌, not, cond, List, [], ◌∷◌, ◌++◌, ◌≡◌, refl, sym, ap, ◌∙◌, ℕ, suc, ◌+◌, ◌*◌, ◌≤◌, arith, eqb, ltb, leb, length, take, drop, eqb-false, ne_eqb, ltb-false, le-leb, not-true, every, empty, total_by, by-test, and_left, and_right, and_both}
use Rattle.postings.specs.declared.Posting.{Posting}
use Rattle.postings.specs.Merge.{nonzero, pairs}
use Rattle.state.specs.Levels.{oldest_at, due_at, replaced}
use Rattle.partitions.specs.Layout.{length_of}
use Rattle.partitions.proofs.Lengths.{terms-most}
use Rattle.accounts.specs.Account.{Portion, Account, blocks_of, blocks_in, due_of, inputs_of, merged, portion_of, blocks_ahead, completed, furthered, stepped_account, flushed_account, added_to}
use Rattle.accounts.proofs.Stored.{level_of, parted, step-ends, step-goes}
use Rattle.accounts.proofs.Steps.{pair_count, Progress, progress-due, inputs-flushed}
use Rattle.accounts.proofs.Shaped.{portion_rule}

-- what a flush writes takes one block
pub one_block : (l : List Posting) → length l ≤ 128 → empty l ≡ false → blocks_of l ≡ 1
unfolding blocks_of length_of
one_block l h e = rw e (omega (arith, terms-most l))

-- a partition's length lies within its blocks
pub length-blocks : (l : List Posting) → empty l ≡ false → length_of l ≤ 4092 * blocks_of l
unfolding blocks_of
length-blocks l e = rw e (omega arith)

-- ---- blocks of runs of partitions

unfoldable pub cost : List Portion → ℕ
cost ps = total_by (λ (p : Portion). blocks_of p.postings) ps

pub cost-append : (ps qs : List Portion) → cost (ps ++ qs) ≡ cost ps + cost qs
unfolding cost
cost-append [] qs = omega arith
cost-append (p ∷ ps) qs = omega (arith, cost-append ps qs)

cost-portion : (a : Account) → cost (portion_of a) ≤ blocks_of (merged a)
unfolding cost
cost-portion a = by-test (empty (merged a)) (λ y. rw y (omega arith)) (λ n. rw n (omega arith))

cost-replaced : (vs : List ℕ) (ps R : List Portion) → cost (replaced level_of vs ps R) ≤ cost ps + cost R
cost-replaced [] ps R = omega arith
cost-replaced (v ∷ vs) ps R =
    let k = oldest_at level_of v ps in
    let ins = take (due_at v) (drop k ps) in
    let back = drop (due_at v) (drop k ps) in
    omega (
      arith,
      cost-append (take k ps) (R ++ back),
      cost-append R back,
      cost-append (take k ps) (ins ++ back),
      cost-append ins back,
      ap cost (parted level_of v ps),
    )

-- ---- the card is never overfull

unfoldable pub Fits : ℕ → Account → Type 0
Fits blocks a = blocks_in a + blocks_ahead a ≤ blocks

-- the output in progress keeps its blocks in a flush, where a merge is
ahead-merging : (a : Account) → Progress a → (vs : List ℕ) → due_of a ≡ vs → 1 ≤ a.steps → blocks_ahead (flushed_account a) ≡ blocks_ahead a
unfolding blocks_ahead flushed_account merged
ahead-merging a progress [] e some = absurd (progress-due a progress some e)
ahead-merging a progress (v ∷ vs) e some = ap (λ l. cond (eqb a.steps 0) 0 (blocks_of (nonzero (pairs l)))) (inputs-flushed a v vs e)

-- and where none is
ahead-idle : (a : Account) → eqb a.steps 0 ≡ true → blocks_ahead (flushed_account a) ≡ blocks_ahead a
unfolding blocks_ahead flushed_account
ahead-idle a y = rw y

pub ahead-flushed : (a : Account) → Progress a → blocks_ahead (flushed_account a) ≡ blocks_ahead a
ahead-flushed a progress =
    by-test (eqb a.steps 0) (ahead-idle a)
    (λ n. let d = eqb-false a.steps 0 n in ahead-merging a progress (due_of a) refl (omega arith))

-- a flush takes one block
pub blocks-flushed : (a : Account) → length a.buffer ≤ 128 → empty a.buffer ≡ false → blocks_in (flushed_account a) ≡ blocks_in a + 1
unfolding blocks_in flushed_account cost
blocks-flushed a room some = cost-append a.partitions (record { level = 0; postings = a.buffer } ∷ []) ∙ rw (one_block a.buffer room some) (omega arith)

pub fits-flushed : (blocks : ℕ) (a : Account) → Progress a → length a.buffer ≤ 128 → empty a.buffer ≡ false
    → ltb blocks (suc (blocks_in a + blocks_ahead a)) ≡ false → Fits blocks (flushed_account a)
unfolding Fits
fits-flushed blocks a progress room some twelve =
    omega (arith, ltb-false blocks (suc (blocks_in a + blocks_ahead a)) twelve, blocks-flushed a room some, ahead-flushed a progress)

-- where a merge is in progress its result has its blocks, and one that begins finds enough
pub result_fits : (blocks : ℕ) (a : Account) → Fits blocks a → (eqb a.steps 0 && ltb blocks (blocks_in a + blocks_of (merged a))) ≡ false → blocks_in a + blocks_of (merged a) ≤ blocks
unfolding Fits blocks_ahead
result_fits blocks a h twelve =
    by-test (eqb a.steps 0)
    (λ y. ltb-false blocks (blocks_in a + blocks_of (merged a)) (sym (ap (λ t. t && ltb blocks (blocks_in a + blocks_of (merged a))) y) ∙ twelve))
    (λ n. rw n at h)

pub fits-stepped : (blocks : ℕ) (a : Account) → Fits blocks a → (eqb a.steps 0 && ltb blocks (blocks_in a + blocks_of (merged a))) ≡ false → Fits blocks (stepped_account a)
fits-stepped blocks a h twelve =
    let room = result_fits blocks a h twelve in
    by-test (leb (pair_count a) (16 * suc a.steps))
    (λ y. rw (step-ends a y) (unfold Fits in (omega (arith, room, ended, idle))))
    (λ n. rw (step-goes a n) (unfold Fits in (omega (arith, room, same, busy))))
  where
    ended : blocks_in (completed a) ≤ blocks_in a + blocks_of (merged a)
    ended = unfold blocks_in completed cost in omega (arith, cost-replaced (due_of a) a.partitions (portion_of a), cost-portion a)

    idle : blocks_ahead (completed a) ≡ 0
    idle = unfold blocks_ahead completed in refl

    same : blocks_in (furthered a) ≡ blocks_in a
    same = unfold blocks_in furthered in refl

    busy : blocks_ahead (furthered a) ≡ blocks_of (merged a)
    busy = unfold blocks_ahead furthered merged inputs_of in rw (ne_eqb (suc a.steps) 0 (λ e. omega arith))

pub fits-added : (blocks : ℕ) (ps : List Posting) (a : Account) → Fits blocks a → Fits blocks (added_to ps a)
unfolding Fits blocks_in blocks_ahead added_to merged inputs_of
fits-added blocks ps a h = h

-- each partition's length lies within the card's content
pub lengths-fit : (blocks : ℕ) (ps : List Portion) → every portion_rule ps ≡ true → cost ps ≤ blocks → every (λ (p : Portion). leb (length_of p.postings) (4092 * blocks)) ps ≡ true
unfolding cost
lengths-fit blocks [] e h = refl
lengths-fit blocks (p ∷ ps) e h =
    let some : empty p.postings ≡ false = not-true _ (and_left (not (empty p.postings)) _ (and_left (portion_rule p) _ e)) in
    and_both (leb (length_of p.postings) (4092 * blocks)) _
    (le-leb (length_of p.postings) (4092 * blocks) (omega (arith, length-blocks p.postings some)))
    (lengths-fit blocks ps (and_right (portion_rule p) _ e) (omega arith))
