-- What is read of a partition's words, whatever stands past them: header, entries and postings.
use Rattle.lists.proofs.Prelude.{List, ◌++◌, map, map-id, append_assoc, ◌≡◌, refl, ap, ◌∙◌, ℕ, ◌+◌, ◌*◌, ◌<◌, arith, length, get_or, drop, get_or-append-add, drop-append-add, drop_at, joined, up_to, map-up_to, length-joined, joined_at}
use Rattle.postings.specs.declared.Posting.{Posting}
use Rattle.postings.specs.Sums.{under}
use Rattle.postings.specs.Spans.{lowest, highest}
use Rattle.partitions.specs.Layout.{identifiers_of, term_count, entry_of, word_of, header, encode}
use Rattle.partitions.specs.Reading.{field, entry_number, entry_count, entry_start, posting_words}
use Rattle.partitions.proofs.Groups.{lower}

module _ (level : ℕ) (ps : List Posting) (rest : List ℕ) where
  -- header, entries, postings, and what follows
  parts : encode level ps ++ rest
      ≡ header level (term_count ps) (length ps) (lowest ps) (highest ps) ++ (joined (map (entry_of ps) (identifiers_of ps)) ++ (map word_of ps ++ rest))
  unfolding encode
  parts =
      let h = header level (term_count ps) (length ps) (lowest ps) (highest ps) in
      ap (λ (r : List ℕ). h ++ r) (append_assoc (joined (map (entry_of ps) (identifiers_of ps))) (map word_of ps) rest)

  -- the header begins with the number of identifiers
  pub field-terms : field (encode level ps ++ rest) 0 ≡ term_count ps
  unfolding encode
  field-terms = refl

  -- and the number of postings
  pub field-postings : field (encode level ps ++ rest) 1 ≡ length ps
  unfolding encode
  field-postings = refl

  -- word r of entry j
  entry-word : (j r : ℕ) → j < term_count ps → r < 3 → get_or (encode level ps ++ rest) (8 + (3 * j + r)) 0 ≡ get_or (entry_of ps (get_or (identifiers_of ps) j 0)) r 0
  entry-word j r a b =
      rw parts
      (get_or-append-add (header level (term_count ps) (length ps) (lowest ps) (highest ps)) (joined (map (entry_of ps) (identifiers_of ps)) ++ (map word_of ps ++ rest)) (3 * j + r) 0
      ∙ joined_at (entry_of ps) 3 (λ i. refl) (identifiers_of ps) (map word_of ps ++ rest) 0 0 j r a b)

  -- entry j has the number of identifier j
  pub entry-number : (j : ℕ) → j < term_count ps → entry_number (encode level ps ++ rest) j ≡ get_or (identifiers_of ps) j 0
  entry-number j a = let e : 8 + 3 * j ≡ 8 + (3 * j + 0) = omega arith in rw e (entry-word j 0 a (omega arith))

  -- how many postings are under it
  pub entry-count : (j : ℕ) → j < term_count ps → entry_count (encode level ps ++ rest) j ≡ length (under (get_or (identifiers_of ps) j 0) ps)
  entry-count j a = let e : 9 + 3 * j ≡ 8 + (3 * j + 1) = omega arith in rw e (entry-word j 1 a (omega arith))

  -- and how many under lower ones
  pub entry_first : (j : ℕ) → j < term_count ps → entry_start (encode level ps ++ rest) j ≡ length (lower (get_or (identifiers_of ps) j 0) ps)
  entry_first j a = let e : 10 + 3 * j ≡ 8 + (3 * j + 2) = omega arith in rw e (entry-word j 2 a (omega arith))

  -- past the entries stand the postings
  pub posting-words : posting_words (encode level ps ++ rest) ≡ map word_of ps ++ rest
  posting-words =
      let h = header level (term_count ps) (length ps) (lowest ps) (highest ps) in
      let es = joined (map (entry_of ps) (identifiers_of ps)) in
      ap (λ (k : ℕ). drop (8 + 3 * k) (encode level ps ++ rest)) field-terms ∙ ap (λ (r : List ℕ). drop (8 + 3 * term_count ps) r) parts
      ∙ drop-append-add h (es ++ (map word_of ps ++ rest)) (3 * term_count ps)
      ∙ drop_at es (map word_of ps ++ rest) (3 * term_count ps) (length-joined (entry_of ps) 3 (λ i. refl) (identifiers_of ps))

  -- the three columns of the entries
  pub numbers-encoded : map (entry_number (encode level ps ++ rest)) (up_to (field (encode level ps ++ rest) 0)) ≡ identifiers_of ps
  numbers-encoded =
      let c = encode level ps ++ rest in
      ap (λ (k : ℕ). map (entry_number c) (up_to k)) field-terms
      ∙ map-up_to (entry_number c) (λ i. i) (identifiers_of ps) 0 (term_count ps) refl entry-number ∙ map-id (identifiers_of ps)

  -- how many postings each has
  pub counts-encoded : map (entry_count (encode level ps ++ rest)) (up_to (field (encode level ps ++ rest) 0)) ≡ map (λ i. length (under i ps)) (identifiers_of ps)
  counts-encoded =
      let c = encode level ps ++ rest in
      ap (λ (k : ℕ). map (entry_count c) (up_to k)) field-terms
      ∙ map-up_to (entry_count c) (λ i. length (under i ps)) (identifiers_of ps) 0 (term_count ps) refl entry-count

  -- and how many stand before them
  pub firsts-encoded : map (entry_start (encode level ps ++ rest)) (up_to (field (encode level ps ++ rest) 0)) ≡ map (λ i. length (lower i ps)) (identifiers_of ps)
  firsts-encoded =
      let c = encode level ps ++ rest in
      ap (λ (k : ℕ). map (entry_start c) (up_to k)) field-terms
      ∙ map-up_to (entry_start c) (λ i. length (lower i ps)) (identifiers_of ps) 0 (term_count ps) refl entry_first
