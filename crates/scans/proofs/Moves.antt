-- Every posting that a reader has still to come has a key of its own.
use Rattle.lists.proofs.Prelude.{true, List, [], ◌∷◌, ◌≡◌, refl, ℕ, ◌-◌, ◌/◌, ◌≤◌, arith, ltb, leb, get_or, drop, le-leb, leb-true, every, AllOf, by-test, and_left, and_right, and_both, never}
use Rattle.words.specs.Words.{Below}
use Rattle.card.specs.Cursors.{ahead}
use Rattle.partitions.specs.declared.Reader.{Reader}
use Rattle.partitions.specs.Readers.{posted_by, postings_ahead, numbered, GoodReader}
use Rattle.kway.proofs.Stored.{Small, small-ahead}
use Rattle.scans.specs.Keys.{is_keyed}

-- ---- every posting to come has a key of its own

-- the first entry's number, and the entries after it
numbered-first : (es : List ℕ) → numbered es ≡ true → get_or es 0 0 ≤ 1023
unfolding numbered
numbered-first [] e = omega arith
numbered-first (i ∷ []) e = never e
numbered-first (i ∷ n ∷ []) e = never e
numbered-first (i ∷ n ∷ f ∷ es) e = leb-true i 1023 (and_left _ _ e)

numbered-rest : (es : List ℕ) → numbered es ≡ true → numbered (drop 3 es) ≡ true
unfolding numbered
numbered-rest [] e = refl
numbered-rest (i ∷ []) e = never e
numbered-rest (i ∷ n ∷ []) e = never e
numbered-rest (i ∷ n ∷ f ∷ es) e = and_right (leb i 1023) _ e

posted-keyed : (id here : ℕ) (xs es : List ℕ) → id ≤ 1023 → AllOf Small xs → numbered es ≡ true → every is_keyed (posted_by id here xs es) ≡ true
unfolding posted_by AllOf
posted-keyed id here [] es h g e = refl
posted-keyed id here (x ∷ xs) es h g e =
    and_both _ _ (and_both (leb id 1023) _ (le-leb id 1023 h) (le-leb (x / 65536) 65535 (omega (arith, g.0))))
    (by-test (ltb 1 here)
    (λ y. rw y (posted-keyed id (here - 1) xs es h g.1 e))
    (λ y. rw y (posted-keyed (get_or es 0 0) (get_or es 1 0) xs (drop 3 es) (numbered-first es e) g.1 (numbered-rest es e))))

module _ (W : List ℕ) (small : Below 4294967296 W) where
  -- of one reader
  pub reader-keyed : (r : Reader) → GoodReader W r → every is_keyed (postings_ahead W r) ≡ true
  unfolding postings_ahead
  reader-keyed r g = posted-keyed r.id r.here (ahead W r.postings) (ahead W r.entries) g.small (small-ahead W small r.postings) g.numbers
