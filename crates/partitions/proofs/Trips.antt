-- Postings that were written as a partition are read back, whatever stands past its words.
use Rattle.lists.proofs.Prelude.{true, List, [], ◌∷◌, ◌++◌, map, ◌≡◌, refl, ap, ap₂, ◌∙◌, ℕ, ◌<◌, ◌≤◌, eqb, nat_abs, length, get_or, take, drop, eqb-true, leb-true, every, joined, up_to, and_left, and_right, every-keep, every-kept, map-up_to, map-middle}
use Rattle.postings.specs.declared.Posting.{Posting}
use Rattle.postings.specs.Order.{ordered}
use Rattle.postings.specs.Pack.{posted}
use Rattle.postings.specs.Sums.{under}
use Rattle.postings.proofs.Trips.{packed-count, packed-window}
use Rattle.partitions.specs.Layout.{identifiers_of, term_count, word_of, encode}
use Rattle.partitions.specs.Reading.{list_of, decode}
use Rattle.partitions.specs.Formed.{in_range}
use Rattle.partitions.proofs.Groups.{lower, higher, parted, grouped}
use Rattle.partitions.proofs.Entries.{field-terms, entry-number, entry-count, entry_first, posting-words}

-- a posting of identifier i whose count fits, from its word
pub word_back : (i : ℕ) (p : Posting) → p.id ≡ i → nat_abs p.count ≤ 32767 → posted i (word_of p) ≡ p
word_back i p e h = rw (← e, packed-window p.count p.window h, packed-count p.count p.window h)

-- the same for a list
pub words_back : (i : ℕ) (l : List Posting) → every (λ p. eqb p.id i) l ≡ true → every (λ p. in_range p.count) l ≡ true → map (posted i) (map word_of l) ≡ l
words_back i [] e f = refl
words_back i (p ∷ l) e f =
    ap₂ (λ (q : Posting) (r : List Posting). q ∷ r)
    (word_back i p (eqb-true p.id i (and_left (eqb p.id i) _ e)) (leb-true (nat_abs p.count) 32767 (and_left (in_range p.count) _ f)))
    (words_back i l (and_right (eqb p.id i) _ e) (and_right (in_range p.count) _ f))

-- the words of one identifier, among all
pub words-under : (ps : List Posting) (rest : List ℕ) → ordered ps ≡ true → (i : ℕ)
    → take (length (under i ps)) (drop (length (lower i ps)) (map word_of ps ++ rest)) ≡ map word_of (under i ps)
words-under ps rest o i =
    ap (λ (l : List Posting). take (length (under i ps)) (drop (length (lower i ps)) (map word_of l ++ rest))) (parted i ps o)
    ∙ map-middle word_of (lower i ps) (under i ps) (higher i ps) rest

module _ (level : ℕ) (ps : List Posting) (rest : List ℕ) (o : ordered ps ≡ true) (f : every (λ p. in_range p.count) ps ≡ true) where
  -- entry j leads to the postings of identifier j
  pub list-encoded : (j : ℕ) → j < term_count ps → list_of (encode level ps ++ rest) j ≡ under (get_or (identifiers_of ps) j 0) ps
  list-encoded j a =
      let i = get_or (identifiers_of ps) j 0 in
      rw (posting-words level ps rest, entry_first level ps rest j a, entry-count level ps rest j a, entry-number level ps rest j a, words-under ps rest o i)
      (words_back i (under i ps) (every-kept (λ p. eqb p.id i) ps) (every-keep (λ p. eqb p.id i) (λ p. in_range p.count) ps f))

  -- all postings are read back
  pub decode-encode : decode (encode level ps ++ rest) ≡ ps
  unfolding decode
  decode-encode =
      let c = encode level ps ++ rest in
      ap (λ (k : ℕ). joined (map (list_of c) (up_to k))) (field-terms level ps rest)
      ∙ ap joined (map-up_to (list_of c) (λ i. under i ps) (identifiers_of ps) 0 (term_count ps) refl list-encoded)
      ∙ grouped ps o
