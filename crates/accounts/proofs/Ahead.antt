-- The output of a merge in progress has at most as many blocks as all finished partitions, so a flush that refusal 11 lets pass finds a free block.
use Rattle.lists.proofs.Prelude.{false, List, [], ◌∷◌, ◌++◌, append-nil, ◌≡◌, ap, ℕ, suc, ◌+◌, ◌*◌, ◌≤◌, arith, eqb, ltb, length, length-append, take, drop, ltb-false, le-ltb, by-test}
use Rattle.postings.specs.declared.Posting.{Posting}
use Rattle.postings.specs.Merge.{nonzero, pairs}
use Rattle.postings.proofs.Merge.{length_merged}
use Rattle.state.specs.Levels.{oldest_at, due_at, oldest}
use Rattle.partitions.specs.Layout.{term_count, length_of}
use Rattle.partitions.proofs.Terms.{terms-append, terms-merged}
use Rattle.accounts.specs.Account.{Portion, Account, postings_in, blocks_of, blocks_in, due_of, inputs_of, merged, blocks_ahead}
use Rattle.accounts.proofs.Stored.{level_of, parted}
use Rattle.accounts.proofs.Fits.{cost, cost-append}

-- fewer postings of fewer identifiers take no more blocks
blocks-less : (l m : List Posting) → length l ≤ length m → term_count l ≤ term_count m → blocks_of l ≤ blocks_of m
unfolding blocks_of length_of
blocks-less [] m h t = omega arith
blocks-less (p ∷ l) [] h t = absurd (omega arith)
blocks-less (p ∷ l) (q ∷ m) h t = omega arith

-- postings joined take at most the blocks of both
blocks-append : (l m : List Posting) → blocks_of (l ++ m) ≤ blocks_of l + blocks_of m
unfolding blocks_of length_of
blocks-append [] m = omega arith
blocks-append (p ∷ l) [] = rw (append-nil l) (omega arith)
blocks-append (p ∷ l) (q ∷ m) = omega (arith, length-append (p ∷ l) (q ∷ m), terms-append (p ∷ l) (q ∷ m))

-- the postings of partitions, as one partition, take at most the partitions' blocks
blocks-joined : (ps : List Portion) → blocks_of (postings_in ps) ≤ cost ps
unfolding cost
blocks-joined [] = unfold blocks_of in omega arith
blocks-joined (p ∷ ps) = omega (arith, blocks-append p.postings (postings_in ps), blocks-joined ps)

-- the inputs of a merge have at most the blocks of all partitions
cost-oldest : (vs : List ℕ) (ps : List Portion) → cost (oldest level_of vs ps) ≤ cost ps
cost-oldest [] ps = unfold cost in omega arith
cost-oldest (v ∷ vs) ps =
    let k = oldest_at level_of v ps in
    let ins = take (due_at v) (drop k ps) in
    let back = drop (due_at v) (drop k ps) in
    omega (arith, cost-append (take k ps) (ins ++ back), cost-append ins back, ap cost (parted level_of v ps))

-- ---- the output in progress

-- the result of a merge takes at most the blocks of the finished partitions
pub merged-most : (a : Account) → blocks_of (merged a) ≤ blocks_in a
unfolding merged inputs_of blocks_in cost
merged-most a =
    let ins = oldest level_of (due_of a) a.partitions in
    omega (
      arith,
      blocks-less (nonzero (pairs (postings_in ins))) (postings_in ins) (length_merged (postings_in ins)) (terms-merged (postings_in ins)),
      blocks-joined ins,
      cost-oldest (due_of a) a.partitions,
    )

-- so the output in progress does
pub ahead-most : (a : Account) → blocks_ahead a ≤ blocks_in a
unfolding blocks_ahead
ahead-most a = by-test (eqb a.steps 0) (λ y. rw y (omega arith)) (λ n. rw n (merged-most a))

-- a flush that is not refused with 11 is not refused with 12
pub twelve-never : (blocks : ℕ) (a : Account) → ltb blocks (2 * suc (blocks_in a)) ≡ false → ltb blocks (suc (blocks_in a + blocks_ahead a)) ≡ false
twelve-never blocks a eleven =
    le-ltb blocks (suc (blocks_in a + blocks_ahead a)) (omega (arith, ltb-false blocks (2 * suc (blocks_in a)) eleven, ahead-most a))
