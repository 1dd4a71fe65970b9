-- What a merge step does to the card's words: its output goes to free blocks, or fills its own chain further, and the last step frees the inputs.
use Rattle.lists.proofs.Prelude.{Bool, true, false, ◌||◌, ◌&&◌, not, cond, List, [], ◌++◌, map, append_assoc, ◌⊎◌, inl, inr, ◌≡◌, refl, sym, ap, ◌∙◌, subst, ℕ, suc, ◌+◌, ◌*◌, ◌-◌, ◌<◌, ◌≤◌, arith, eqb, ltb, length, get_or, take, drop, replicate, length-append, length-map, length-replicate, get_or-replicate, List·getD-append, get_or-append-add, take-add, ltb-true, ltb-false, every, empty, different, same, joined, by-test, and_left, and_right, length-joined, same_true, every_take, map-append, different-parts}
use Rattle.words.specs.Words.{all_ones}
use Rattle.postings.specs.declared.Posting.{Posting}
use Rattle.postings.specs.Merge.{nonzero}
use Rattle.postings.specs.Spans.{lowest, highest}
use Rattle.state.specs.declared.State.{State}
use Rattle.state.specs.Views.{padded, blocks, finished}
use Rattle.card.specs.Blocks.{no_block, is_free, free_blocks}
use Rattle.card.specs.Chains.{blocks_for, chain_rule, content}
use Rattle.blocks.specs.Writes.{store, release}
use Rattle.blocks.specs.Moves.{Fills, Moves}
use Rattle.card.proofs.Chains.{chain-none}
use Rattle.card.proofs.Links.{length-chain}
use Rattle.blocks.proofs.Stores.{length-store, length-release}
use Rattle.blocks.proofs.FreeBlocks.{free-free}
use Rattle.blocks.proofs.ByteRule.{store-fills, release-frees, fills-moves, fills-frees}
use Rattle.blocks.proofs.Refills.{refills}
use Rattle.partitions.specs.Layout.{identifiers_of, term_count, length_of, header, entry_of, word_of, encode}
use Rattle.partitions.specs.Formed.{partitions_formed, chains_of, lists_rule, in_range}
use Rattle.plans.specs.Merging.{inputs, taking, result, output_length, output_blocks, progress, is_last, output_level, output_content}
use Rattle.plans.specs.Step.{in_progress, output_chain, output_rule, step_formed, output_chain_on, written_on}
use Rattle.plans.proofs.Progress.{front, nonzero-append, nonzero-take, length-progress, all-taken, result-room}
use Rattle.plans.proofs.Drafting.{chain_first}

-- Filled further ---------------------------------------------------------------------------------------------------------

-- f is written over a front of ones, and v over ones past what was there: each word stays or was all ones
filled-further : (d m : ℕ) (f a v x : List ℕ) (k i : ℕ) → length f ≡ m → i < m + (length a + k)
    → (get_or ((f ++ (a ++ v)) ++ x) i 0 ≡ get_or ((replicate m d ++ a) ++ replicate k d) i 0) ⊎ (get_or ((replicate m d ++ a) ++ replicate k d) i 0 ≡ d)
filled-further d m f a v x k i e h =
    by-test (ltb i m)
    (λ y. let low = ltb-true i m y in
    inr (ap (λ l. get_or l i 0) (append_assoc (replicate m d) a (replicate k d)) ∙ List·getD-append (replicate m d) (a ++ replicate k d) 0 i (omega (arith, long)) ∙ get_or-replicate m i d 0 low))
    (λ n. let high = ltb-false i m n in past (i - m) (omega arith))
  where
    long : length (replicate m d) ≡ m
    long = length-replicate m d

    past : (r : ℕ) → i ≡ m + r
        → (get_or ((f ++ (a ++ v)) ++ x) i 0 ≡ get_or ((replicate m d ++ a) ++ replicate k d) i 0) ⊎ (get_or ((replicate m d ++ a) ++ replicate k d) i 0 ≡ d)
    past r q =
        by-test (ltb r (length a))
        (λ y. let low = ltb-true r (length a) y in inl (new ∙ List·getD-append a (v ++ x) 0 r low ∙ sym (List·getD-append a (replicate k d) 0 r low) ∙ sym old))
        (λ n. let high = ltb-false r (length a) n in
        let z : r ≡ length a + (r - length a) = omega arith in
        inr (old ∙ ap (λ j. get_or (a ++ replicate k d) j 0) z ∙ get_or-append-add a (replicate k d) (r - length a) 0 ∙ get_or-replicate k (r - length a) d 0 (omega arith)))
      where
        new : get_or ((f ++ (a ++ v)) ++ x) i 0 ≡ get_or (a ++ (v ++ x)) r 0
        new =
            let z : i ≡ length f + r = omega arith in
            ap (λ l. get_or l i 0) (append_assoc f (a ++ v) x ∙ ap (λ l. f ++ l) (append_assoc a v x)) ∙ ap (λ j. get_or (f ++ (a ++ (v ++ x))) j 0) z ∙ get_or-append-add f (a ++ (v ++ x)) r 0

        old : get_or ((replicate m d ++ a) ++ replicate k d) i 0 ≡ get_or (a ++ replicate k d) r 0
        old =
            let z : i ≡ length (replicate m d) + r = omega (arith, long) in
            ap (λ l. get_or l i 0) (append_assoc (replicate m d) a (replicate k d)) ∙ ap (λ j. get_or (replicate m d ++ (a ++ replicate k d)) j 0) z ∙ get_or-append-add (replicate m d) (a ++ replicate k d) r 0

-- The content of the next step -------------------------------------------------------------------------------------------

module _ (s : State) (ps : List Posting) (j : ℕ) where
  -- the words of the postings that are written, and of the next sixteen pairs
  abbrev done : List ℕ
  done = map word_of (nonzero (take (16 * j) ps))

  abbrev next : List ℕ
  next = map word_of (nonzero (take 16 (drop (16 * j) ps)))

  -- together the words after the next step
  both : map word_of (nonzero (take (16 * suc j) ps)) ≡ done ++ next
  both = let e : 16 * suc j ≡ 16 * j + 16 = omega arith in rw (e, take-add (16 * j) 16 ps, nonzero-append, map-append word_of)

  -- header and entries, or the space for them
  abbrev heading : Bool → List ℕ
  heading t = cond t (header (output_level s) (term_count (result ps)) (length (result ps)) (lowest (result ps)) (highest (result ps)) ++ joined (map (entry_of (result ps)) (identifiers_of (result ps)))) (replicate (front ps) all_ones)

  heading-long : (t : Bool) → length (heading t) ≡ front ps
  heading-long true =
      omega (
        arith,
        length-append (header (output_level s) (term_count (result ps)) (length (result ps)) (lowest (result ps)) (highest (result ps))) (joined (map (entry_of (result ps)) (identifiers_of (result ps)))),
        length-joined (entry_of (result ps)) 3 (λ x. refl) (identifiers_of (result ps)),
      )
  heading-long false = length-replicate (front ps) all_ones

  -- the next step's content: a heading, what was written, and what comes next
  content-next : output_content s ps (suc j) ≡ heading (is_last ps (suc j)) ++ (done ++ next)
  unfolding output_content encode progress
  content-next = go (is_last ps (suc j)) refl
    where
      go : (t : Bool) → is_last ps (suc j) ≡ t → cond t (encode (output_level s) (result ps)) (progress ps (suc j)) ≡ heading t ++ (done ++ next)
      go true y =
          sym (append_assoc (header (output_level s) (term_count (result ps)) (length (result ps)) (lowest (result ps)) (highest (result ps))) (joined (map (entry_of (result ps)) (identifiers_of (result ps)))) (map word_of (result ps)))
          ∙ ap (λ l. heading true ++ l) (ap (λ l. map word_of (nonzero l)) (sym (all-taken ps (suc j) y)) ∙ both)
      go false n = ap (λ l. heading false ++ l) both

  -- it is no longer than the whole result
  next-long : length (output_content s ps (suc j)) ≤ front ps + length (result ps)
  next-long =
      omega (
        arith,
        ap length content-next,
        length-append (heading (is_last ps (suc j))) (done ++ next),
        heading-long (is_last ps (suc j)),
        ap length both,
        length-map (nonzero (take (16 * suc j) ps)) word_of,
        nonzero-take (16 * suc j) ps,
      )

  -- word by word, where what was written is told by its parts
  by_parts : (x : List ℕ) (k i : ℕ) → i < front ps + (length done + k)
      → (get_or ((heading (is_last ps (suc j)) ++ (done ++ next)) ++ x) i 0 ≡ get_or (progress ps j ++ replicate k all_ones) i 0) ⊎ (get_or (progress ps j ++ replicate k all_ones) i 0 ≡ all_ones)
  unfolding progress
  by_parts x k i low = filled-further all_ones (front ps) (heading (is_last ps (suc j))) done next x k i (heading-long (is_last ps (suc j))) low

  progress-long : length (progress ps j) ≡ front ps + length done
  progress-long = omega (arith, length-progress ps j, length-map (nonzero (take (16 * j) ps)) word_of)

  -- over what the steps before wrote, and ones, each word of it stays or was all ones
  word_next : (x : List ℕ) (k i : ℕ) → i < length (progress ps j) + k
      → (get_or (output_content s ps (suc j) ++ x) i 0 ≡ get_or (progress ps j ++ replicate k all_ones) i 0) ⊎ (get_or (progress ps j ++ replicate k all_ones) i 0 ≡ all_ones)
  word_next x k i h = rw content-next (by_parts x k i (omega (arith, progress-long)))

-- A step -----------------------------------------------------------------------------------------------------------------

module _ (W : List ℕ) (s : State) (long : length W ≡ 1024 * blocks s) where
  abbrev ps : List Posting
  ps = taking W s

  abbrev j : ℕ
  j = s.merge.steps

  abbrev n : ℕ
  n = output_blocks (result ps)

  abbrev bs : List ℕ
  bs = output_chain W s ps

  -- an output that has blocks fills them further
  further : empty (result ps) ≡ false → chain_rule W (blocks s) s.merge.first n ≡ true → different (bs ++ chains_of W (finished s.partitions)) ≡ true
      → content W bs ≡ padded (1023 * n) all_ones (progress ps j) → Fills W (store W bs (output_content s ps (suc j)))
  further some rule apart full =
      refills W bs c (blocks s) long (different-parts bs (chains_of W (finished s.partitions)) apart).left room (rw (first, size)) (rw (first, size) rule) fills
    where
      c : List ℕ
      c = output_content s ps (suc j)

      size : length bs ≡ n
      size = length-chain W s.merge.first n

      roomy : front ps + length (result ps) ≤ 1023 * n
      roomy = result-room ps n refl some

      first : get_or bs 0 0 ≡ s.merge.first
      first = chain_first W s.merge.first n (omega (arith, roomy))

      room : length c ≤ 1023 * length bs
      room = omega (arith, next-long s ps j, roomy, size)

      fills : (i : ℕ) → i < 1023 * length bs
          → (get_or (c ++ replicate (1023 * length bs - length c) all_ones) i 0 ≡ get_or (content W bs) i 0) ⊎ (get_or (content W bs) i 0 ≡ all_ones)
      fills i h =
          subst (λ u. (get_or (c ++ replicate (1023 * length bs - length c) all_ones) i 0 ≡ get_or u i 0) ⊎ (get_or u i 0 ≡ all_ones)) (sym full)
          (word_next s ps j (replicate (1023 * length bs - length c) all_ones) (1023 * n - length (progress ps j)) i (omega (arith, size)))

  -- an empty result has no block
  nothing : (c : List ℕ) → empty (result ps) ≡ true → Fills W (store W bs c)
  nothing c e = rw (chain-none W s.merge.first n (ap (λ t. cond t 0 (blocks_for (length_of (result ps)))) e)) (store-fills W [] c refl)

  -- the output in progress
  going : output_rule W s ps ≡ true → Fills W (store W bs (output_content s ps (suc j)))
  unfolding output_rule
  going rule =
      by-test (empty (result ps))
      (λ y. nothing (output_content s ps (suc j)) y)
      (λ f. let r = rest f in
      let q = and_right (chain_rule W (blocks s) s.merge.first n) _ r in
      further f (and_left (chain_rule W (blocks s) s.merge.first n) _ r) (and_left (different (bs ++ chains_of W (finished s.partitions))) _ q)
      (same_true _ _ (and_right (different (bs ++ chains_of W (finished s.partitions))) _ q)))
    where
      whole : Bool
      whole =
          chain_rule W (blocks s) s.merge.first n
          && (different (bs ++ chains_of W (finished s.partitions)) && same (content W bs) (padded (1023 * n) all_ones (progress ps j)))

      rest : empty (result ps) ≡ false → whole ≡ true
      rest f =
          sym (ap (λ t. cond t (eqb s.merge.first no_block) whole) f)
          ∙ and_right (eqb s.merge.length (output_length (result ps))) _ (and_right (not (is_last ps j)) _ rule)

  -- a step that is not malformed only fills, before it frees
  pub step-fills : step_formed W s ≡ true → Fills W (store W (output_chain_on W s ps) (output_content s ps (suc j)))
  unfolding output_chain_on step_formed
  step-fills formed = go (in_progress s) refl
    where
      last : (not (in_progress s) || output_rule W s ps) ≡ true
      last =
          and_right (every (λ p. in_range p.count) ps) _
          (and_right (every (lists_rule W) (inputs s)) _ (and_right (partitions_formed W (blocks s) (finished s.partitions)) _ formed))

      go : (t : Bool) → in_progress s ≡ t → Fills W (store W (cond t bs (take n (free_blocks W (blocks s) s.taken))) (output_content s ps (suc j)))
      go true y = going (sym (ap (λ t. not t || output_rule W s ps) y) ∙ last)
      go false f = store-fills W _ _ (every_take (is_free W) n (free_blocks W (blocks s) s.taken) (free-free W (blocks s) s.taken))

  -- the card before the inputs are freed
  abbrev filled : List ℕ
  filled = store W (output_chain_on W s ps) (output_content s ps (suc j))

  filled-long : length filled ≡ length W
  filled-long = length-store W (output_chain_on W s ps) (output_content s ps (suc j))

  -- the words of the card after a step have moved as is allowed
  pub step-moves : step_formed W s ≡ true → Moves W (written_on W s ps (suc j) (output_chain_on W s ps))
  unfolding written_on
  step-moves formed = go (is_last ps (suc j))
    where
      go : (t : Bool) → Moves W (cond t (release filled (chains_of W (inputs s))) filled)
      go true = fills-frees W filled (release filled (chains_of W (inputs s))) filled-long (step-fills formed) (release-frees filled (chains_of W (inputs s)) (blocks s) (filled-long ∙ long))
      go false = fills-moves W filled (step-fills formed)

  -- and are as many as before
  pub step-length : length (written_on W s ps (suc j) (output_chain_on W s ps)) ≡ length W
  unfolding written_on
  step-length = go (is_last ps (suc j))
    where
      go : (t : Bool) → length (cond t (release filled (chains_of W (inputs s))) filled) ≡ length W
      go true = length-release filled (chains_of W (inputs s)) ∙ filled-long
      go false = filled-long
