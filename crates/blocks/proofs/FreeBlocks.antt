-- Free blocks: which they are, that a release frees, and that neither a store nor a release touches any other.
use Rattle.lists.proofs.Prelude.{Bool, true, false, not, ◌||◌, true≢false, List, [], ◌∷◌, ◌≡◌, refl, sym, ap, ◌∙◌, ℕ, zero, suc, ◌+◌, ◌*◌, ◌/◌, ◌%◌, ◌<◌, ◌≤◌, arith, eqb, ltb, length, get_or, drop, replicate, length-replicate, length-take, length-drop, sets, length-sets, eqb-true, lt-ltb, ltb-true, not-true, keep, every, elem, different, up_to, by-test, and_left, and_right, every-at, every-from, every-keep, every-kept, every-rising, different-rising, every-replicate, every-elem, different-keep, every-turned, length-keep-turned, different-turned}
use Rattle.words.specs.Words.{all_ones}
use Rattle.card.specs.Blocks.{no_block, block, link, is_free, after_taken, free_blocks, on_card}
use Rattle.card.specs.Chains.{chain, chain_rule}
use Rattle.blocks.specs.Writes.{store, release}
use Rattle.card.proofs.Links.{word-in, rule-first}
use Rattle.blocks.proofs.Stores.{apart, length-store, store_apart, release-apart}
use Rattle.blocks.proofs.Stored.{block_back, chain-stored, rule-stored}

-- Released ---------------------------------------------------------------------------------------------------------

-- a block of the card that is released is all ones
pub block-released : (W bs : List ℕ) (n b : ℕ) → length W ≡ 1024 * n → b < n → elem b bs ≡ true → block (release W bs) b ≡ replicate 1024 all_ones
unfolding release
block-released W [] n b long h m = absurd (true≢false (sym m))
block-released W (d ∷ bs) n b long h m =
    let ones = replicate 1024 all_ones in
    let W' = sets W (1024 * d) ones in
    by-test (elem b bs)
    (λ y. block-released W' bs n b (length-sets W (1024 * d) ones ∙ long) h y)
    (λ f. let e : d ≡ b = eqb-true d b (or_left (eqb d b) (elem b bs) m f) in
    release-apart W' bs b f ∙ ap (λ (k : ℕ). block (sets W (1024 * k) ones) b) e ∙ block_back W b n long h ones (length-replicate 1024 all_ones))
  where
    or_left : (s t : Bool) → (s || t) ≡ true → t ≡ false → s ≡ true
    or_left true t p q = refl
    or_left false t p q = absurd (true≢false (sym p ∙ q))

-- so it is free
pub released-free : (W bs : List ℕ) (n b : ℕ) → length W ≡ 1024 * n → b < n → elem b bs ≡ true → is_free (release W bs) b ≡ true
released-free W bs n b long h m = ap (every (eqb all_ones)) (block-released W bs n b long h m) ∙ every-replicate (eqb all_ones) 1024 all_ones refl

-- and any other block is free as it was
pub release_other : (W bs : List ℕ) (b : ℕ) → elem b bs ≡ false → is_free (release W bs) b ≡ is_free W b
release_other W bs b m = ap (every (eqb all_ones)) (release-apart W bs b m)

-- the same for a store
pub store_other : (W bs c : List ℕ) (b : ℕ) → elem b bs ≡ false → is_free (store W bs c) b ≡ is_free W b
store_other W bs c b m = ap (every (eqb all_ones)) (store_apart W bs c b m)

-- Free -------------------------------------------------------------------------------------------------------------

module _ (W : List ℕ) (n taken : ℕ) where
  -- the free blocks are blocks of the card
  pub free_on : on_card n (free_blocks W n taken) ≡ true
  unfolding free_blocks
  free_on =
      every-keep (is_free W) (λ b. ltb b n) (after_taken n taken)
      (every-turned (suc taken) (up_to n) (λ b. ltb b n) ∙ every-rising (λ b. ltb b n) 0 n (λ j a b. lt-ltb j n (omega arith)))

  -- each is free
  pub free-free : every (is_free W) (free_blocks W n taken) ≡ true
  unfolding free_blocks
  free-free = every-kept (is_free W) (after_taken n taken)

  -- none stands twice
  pub free-different : different (free_blocks W n taken) ≡ true
  unfolding free_blocks
  free-different = different-keep (is_free W) (after_taken n taken) (different-turned (suc taken) (up_to n) (different-rising 0 n))

  -- the one at place j is on the card and free
  pub free-at : (j : ℕ) → j < length (free_blocks W n taken) → (get_or (free_blocks W n taken) j 0 < n) × (is_free W (get_or (free_blocks W n taken) j 0) ≡ true)
  free-at j h =
      let bs = free_blocks W n taken in
      (ltb-true (get_or bs j 0) n (every-at (λ b. ltb b n) bs 0 free_on j h), every-at (is_free W) bs 0 free-free j h)

  -- and how many they are does not depend on the block last taken
  pub free-count : length (free_blocks W n taken) ≡ length (keep (is_free W) (up_to n))
  unfolding free_blocks
  free-count = length-keep-turned (suc taken) (up_to n) (is_free W)

-- Taken ------------------------------------------------------------------------------------------------------------

-- a word of a free block is all ones
pub free-word : (W : List ℕ) (k : ℕ) → k < length W → is_free W (k / 1024) ≡ true → get_or W k 0 ≡ all_ones
free-word W k h e =
    let b = 1024 * (k / 1024) in
    let l : k % 1024 < length (block W (k / 1024)) = omega (arith, length-take 1024 (drop b W), length-drop b W) in
    word-in W k ∙ sym (eqb-true all_ones (get_or (block W (k / 1024)) (k % 1024) 0) (every-at (eqb all_ones) (block W (k / 1024)) 0 e (k % 1024) l))

-- and so is a free block's link
pub free-link : (W : List ℕ) (n b : ℕ) → length W ≡ 1024 * n → b < n → is_free W b ≡ true → link W b ≡ all_ones
free-link W n b long h e =
    let q : (1024 * b + 1023) / 1024 ≡ b = omega arith in
    free-word W (1024 * b + 1023) (omega arith) (rw q e)

-- so a block that links to another of the card, or to none, is not free
taken : (W : List ℕ) (n b : ℕ) → length W ≡ 1024 * n → b < n → link W b < all_ones → is_free W b ≡ false
taken W n b long h l = by-test (is_free W b) (λ y. absurd (omega (arith, free-link W n b long h y))) (λ f. f)

-- no block of a chain that keeps the rule is free
pub chain-taken : (W : List ℕ) (n b k : ℕ) → length W ≡ 1024 * n → n ≤ all_ones → chain_rule W n b k ≡ true → every (λ d. not (is_free W d)) (chain W b k) ≡ true
unfolding chain chain_rule
chain-taken W n b zero long m e = refl
chain-taken W n b (suc zero) long m e =
    let h = ltb-true b n (and_left (ltb b n) _ e) in
    let l = eqb-true (link W b) no_block (and_right (ltb b n) _ e) in
    rw (taken W n b long h (omega arith))
chain-taken W n b (suc (suc k)) long m e =
    let h = ltb-true b n (and_left (ltb b n) _ e) in
    let r = and_right (ltb b n) _ e in
    rw (taken W n b long h (omega (arith, rule-first W n (link W b) (suc k) r))) (chain-taken W n (link W b) (suc k) long m r)

-- so it stands apart from any free blocks
pub apart-free : (W ds bs : List ℕ) → every (λ d. not (is_free W d)) ds ≡ true → every (is_free W) bs ≡ true → apart ds bs ≡ true
apart-free W ds bs e f =
    every-from (λ d. not (is_free W d)) (λ d. not (is_free W d)) (λ d. not (elem d bs))
    (λ d u v. by-test (elem d bs)
    (λ y. absurd (true≢false (sym (every-elem (is_free W) bs d f y) ∙ not-true (is_free W d) u)))
    (λ g. rw g)) ds e e

-- no block written to is free
pub written-taken : (W bs c : List ℕ) (n b : ℕ) → length W ≡ 1024 * n → n ≤ all_ones → on_card n bs ≡ true → different bs ≡ true → elem b bs ≡ true → is_free (store W bs c) b ≡ false
written-taken W [] c n b long most on once m = absurd (true≢false (sym m))
written-taken W (d ∷ bs) c n b long most on once m =
    not-true (is_free X b) (every-elem (λ x. not (is_free X x)) (d ∷ bs) b taken m)
  where
    X : List ℕ
    X = store W (d ∷ bs) c

    taken : every (λ x. not (is_free X x)) (d ∷ bs) ≡ true
    taken =
        ap (every (λ x. not (is_free X x))) (sym (chain-stored W (d ∷ bs) c n long on once))
        ∙ chain-taken X n d (suc (length bs)) (length-store W (d ∷ bs) c ∙ long) most (rule-stored W (d ∷ bs) c n long on once (omega arith))
