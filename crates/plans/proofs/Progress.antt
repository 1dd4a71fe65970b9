-- The content of the output, from step to step.
use Rattle.lists.proofs.Prelude.{true, false, List, ◌++◌, map, append-nil, append_assoc, ◌≡◌, refl, sym, ap, ◌∙◌, ℕ, suc, ◌+◌, ◌*◌, ◌≤◌, arith, leb, length, take, drop, replicate, length-take, length-drop, length-append, length-map, length-replicate, take-append-drop, sets, sets-eq, take_all, take-add, drop_at, leb-true, leb-false, le-leb, lt-leb, joined, empty, by-test, keep_append, length-joined, map-append}
use Rattle.lists.proofs.Stores.{sets-append}
use Rattle.words.specs.Words.{all_ones}
use Rattle.postings.specs.declared.Posting.{Posting}
use Rattle.postings.specs.Merge.{is_counted, nonzero}
use Rattle.postings.specs.Spans.{lowest, highest}
use Rattle.card.specs.Chains.{blocks_for}
use Rattle.partitions.specs.Layout.{identifiers_of, term_count, length_of, header, entry_of, word_of, encode}
use Rattle.plans.specs.Merging.{result, output_blocks, progress, is_last}

-- Sums other than 0 ------------------------------------------------------------------------------------------------------

pub nonzero-append : (a b : List Posting) → nonzero (a ++ b) ≡ nonzero a ++ nonzero b
unfolding nonzero
nonzero-append a b = keep_append is_counted a b

-- of the first n pairs there are no more than of all
pub nonzero-take : (n : ℕ) (ps : List Posting) → length (nonzero (take n ps)) ≤ length (nonzero ps)
nonzero-take n ps =
    omega (arith, ap (λ (l : List Posting). length (nonzero l)) (take-append-drop n ps), ap length (nonzero-append (take n ps) (drop n ps)), length-append (nonzero (take n ps)) (nonzero (drop n ps)))

-- Progress ---------------------------------------------------------------------------------------------------------------

module _ (ps : List Posting) where
  -- words of header and entries
  abbrev pub front : ℕ
  front = 8 + 3 * term_count (result ps)

  -- sixteen pairs more
  pub progress-more : (j : ℕ) → progress ps (suc j) ≡ progress ps j ++ map word_of (nonzero (take 16 (drop (16 * j) ps)))
  unfolding progress
  progress-more j =
      let e : 16 * suc j ≡ 16 * j + 16 = omega arith in
      rw (e, take-add (16 * j) 16 ps, nonzero-append, map-append word_of) (sym (append_assoc (replicate front all_ones) _ _))

  -- how long it is
  pub length-progress : (j : ℕ) → length (progress ps j) ≡ front + length (nonzero (take (16 * j) ps))
  unfolding progress
  length-progress j =
      omega (
        arith,
        length-append (replicate front all_ones) (map word_of (nonzero (take (16 * j) ps))),
        length-replicate front all_ones,
        length-map (nonzero (take (16 * j) ps)) word_of,
      )

  -- nothing is written at first
  pub progress-none : progress ps 0 ≡ replicate front all_ones
  unfolding progress nonzero
  progress-none = append-nil (replicate front all_ones)

  -- the whole result has room in its blocks
  pub result-room : (n : ℕ) → n ≡ output_blocks (result ps) → empty (result ps) ≡ false → front + length (result ps) ≤ 1023 * n
  unfolding length_of
  result-room n e h = let q : n ≡ blocks_for (length_of (result ps)) = e ∙ rw h in omega arith

  -- and so has what is written of it
  pub progress-room : (n j : ℕ) → n ≡ output_blocks (result ps) → empty (result ps) ≡ false → length (progress ps j) ≤ 1023 * n
  progress-room n j e h = omega (arith, length-progress j, nonzero-take (16 * j) ps, result-room n e h)

  -- Last -------------------------------------------------------------------------------------------------------------------

  -- after the last step all pairs are taken
  pub all-taken : (j : ℕ) → is_last ps j ≡ true → take (16 * j) ps ≡ ps
  all-taken j e = take_all (16 * j) ps (leb-true (length ps) (16 * j) e)

  -- header and entries over the space that was left for them
  pub completed : (level j : ℕ) → is_last ps j ≡ true
      → sets (sets (progress ps j) 0 (header level (term_count (result ps)) (length (result ps)) (lowest (result ps)) (highest (result ps)))) 8 (joined (map (entry_of (result ps)) (identifiers_of (result ps)))) ≡ encode level (result ps)
  unfolding progress encode
  completed level j e =
      let r = result ps in
      let hs = header level (term_count r) (length r) (lowest r) (highest r) in
      let es = joined (map (entry_of r) (identifiers_of r)) in
      let le : length es ≡ 3 * term_count r = length-joined (entry_of r) 3 (λ x. refl) (identifiers_of r) in
      let c = replicate front all_ones ++ map word_of r in
      let lr = length-replicate front all_ones in
      let lh : 0 + length (hs ++ es) ≡ front = omega (arith, length-append hs es) in
      let lc : length c ≡ front + length (map word_of r) = length-append (replicate front all_ones) (map word_of r) ∙ (omega arith) in
      rw (all-taken j e)
      (sym (sets-append c 0 hs es)
      ∙ sets-eq (hs ++ es) c 0 (omega arith)
      ∙ ap (λ (l : List ℕ). (hs ++ es) ++ l) (rw lh (drop_at (replicate front all_ones) (map word_of r) front lr))
      ∙ append_assoc hs es (map word_of r))

-- the step that takes the next sixteen pairs, or all that are left, is the last exactly where none is left after it
pub last_taken : (ps : List Posting) (j k : ℕ) → k ≡ length (take 16 (drop (16 * j) ps)) → leb (length ps) (16 * j + k) ≡ is_last ps (suc j)
last_taken ps j k e =
    let a = length-take 16 (drop (16 * j) ps) in
    let b = length-drop (16 * j) ps in
    by-test (is_last ps (suc j))
    (λ y. let h = leb-true (length ps) (16 * suc j) y in le-leb (length ps) (16 * j + k) (omega arith) ∙ sym y)
    (λ n. let h = leb-false (length ps) (16 * suc j) n in lt-leb (length ps) (16 * j + k) (omega arith) ∙ sym n)
