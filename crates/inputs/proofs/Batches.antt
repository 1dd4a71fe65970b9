-- Pairs taken one by one: what is kept of them, and how the output is compared with them.
use Rattle.lists.proofs.Prelude.{Bool, ◌&&◌, and_assoc, List, [], ◌∷◌, ◌++◌, map, map-append, append_assoc, append-nil, ◌≡◌, refl, sym, ap, ◌∙◌, ℕ, zero, suc, ◌+◌, ◌-◌, ◌<◌, ◌≤◌, arith, length, take, drop, length-append, length-drop, drop-drop, same, keep_append, and-true, same-append, take-add, length-take-le}
use Rattle.postings.specs.declared.Posting.{Posting}
use Rattle.postings.specs.Merge.{is_counted, nonzero}
use Rattle.partitions.specs.Layout.{word_of}
use Rattle.inputs.specs.Ahead.{out_words, Matched}

-- the first pair, and the others
nonzero-first : (p : Posting) (l : List Posting) → nonzero (p ∷ l) ≡ nonzero (p ∷ []) ++ nonzero l
unfolding nonzero
nonzero-first p l = keep_append is_counted (p ∷ []) l

module _ (n i : ℕ) (ps rest : List Posting) (p : Posting) (h : i < n) (e : ps ≡ p ∷ rest) where
  less : n - i ≡ suc (n - (i + 1))
  less = omega arith

  -- of the pairs to take
  pub take_next : take (n - i) ps ≡ p ∷ take (n - (i + 1)) rest
  take_next = rw (e, less)

  -- of those after them
  pub drop-next : drop (n - i) ps ≡ drop (n - (i + 1)) rest
  drop-next = rw (e, less)

  -- of what is kept
  pub kept_next : nonzero (take (n - i) ps) ≡ nonzero (p ∷ []) ++ nonzero (take (n - (i + 1)) rest)
  kept_next = ap nonzero take_next ∙ nonzero-first p (take (n - (i + 1)) rest)

  -- and as words
  pub words-next : out_words (n - i) ps ≡ out_words 1 (p ∷ []) ++ out_words (n - (i + 1)) rest
  words-next = ap (map word_of) kept_next ∙ map-append word_of (nonzero (p ∷ [])) (nonzero (take (n - (i + 1)) rest))

-- no pair is to be taken
pub take_none : (n i : ℕ) (ps : List Posting) → n ≤ i → take (n - i) ps ≡ []
take_none n i ps h = let e : n - i ≡ 0 = omega arith in rw e

pub take-empty : (n : ℕ) (ps : List Posting) → ps ≡ [] → take n ps ≡ []
take-empty zero ps e = refl
take-empty (suc n) ps e = rw e

pub drop-none : (n i : ℕ) (ps : List Posting) → n ≤ i → drop (n - i) ps ≡ ps
drop-none n i ps h = let e : n - i ≡ 0 = omega arith in rw e

pub drop-empty : (n : ℕ) (ps : List Posting) → ps ≡ [] → drop n ps ≡ ps
drop-empty zero ps e = refl
drop-empty (suc n) ps e = rw e

pub nonzero-none : nonzero [] ≡ []
unfolding nonzero
nonzero-none = refl

pub words-none : {l : List Posting} → l ≡ [] → map word_of (nonzero l) ≡ []
words-none e = ap (λ (r : List Posting). map word_of (nonzero r)) e ∙ ap (map word_of) nonzero-none

-- ---- a batch

module _ (all kept : List Posting) (i : ℕ) (ps rest : List Posting) (p : Posting) (h : i < 16) (e : ps ≡ p ∷ rest) where
  -- one pair more is kept
  pub batch-more : (next : List Posting) → next ≡ kept ++ nonzero (p ∷ []) → all ≡ kept ++ nonzero (take (16 - i) ps) → all ≡ next ++ nonzero (take (16 - (i + 1)) rest)
  batch-more next q a =
      a ∙ ap (λ (l : List Posting). kept ++ l) (kept_next 16 i ps rest p h e)
      ∙ sym (append_assoc kept (nonzero (p ∷ [])) (nonzero (take (16 - (i + 1)) rest)))
      ∙ ap (λ (l : List Posting). l ++ nonzero (take (16 - (i + 1)) rest)) (sym q)

  -- and counted
  pub batch-count : (n : ℕ) → n ≡ i + length (take (16 - i) ps) → n ≡ i + 1 + length (take (16 - (i + 1)) rest)
  batch-count n q = let l = ap length (take_next 16 i ps rest p h e) in omega arith

-- nothing is left to take
pub batch-done : (all kept l : List Posting) → l ≡ [] → all ≡ kept ++ nonzero l → kept ≡ all
batch-done all kept l e a = sym (a ∙ ap (λ (r : List Posting). kept ++ nonzero r) e ∙ ap (λ (r : List Posting). kept ++ r) nonzero-none ∙ append-nil kept)

-- ---- words compared

-- words in two parts
same_parts : (x y z : List ℕ) → length x + length y ≤ length z
    → same (x ++ y) (take (length (x ++ y)) z) ≡ (same x (take (length x) z) && same y (take (length y) (drop (length x) z)))
same_parts x y z h =
    rw (length-append x y, take-add (length x) (length y) z)
    (same-append x y (take (length x) z) (take (length y) (drop (length x) z)) (sym (length-take-le (length x) z (omega arith))))

-- what is told of all words, where `r` is told of those compared and these are to be compared at the output
pub record Comparing (out : List ℕ) (words : List ℕ) (all : Bool) (end : List ℕ) (r : Bool) : Type 0 where
  pub same : all ≡ (r && same words (take (length words) out))
  pub rest : end ≡ drop (length words) out
  pub room : length words ≤ length out

module _ (out words : List ℕ) (all : Bool) (end : List ℕ) (r : Bool) (c : Comparing out words all end r) where
  -- a part more
  pub compare-more : (first others next : List ℕ) (s : Bool) → words ≡ first ++ others → Matched out first s next → Comparing next others all end (r && s)
  compare-more first others next s e m =
      let n : length words ≡ length first + length others = ap length e ∙ length-append first others in
      let k = length-drop (length first) out in
      let q : length next ≡ length (drop (length first) out) = ap length m.rest in
      record {
        same = c.same ∙ rw e (ap (λ (t : Bool). r && t) (same_parts first others out (omega (arith, c.room)) ∙ rw (sym m.same, sym m.rest)) ∙ sym (and_assoc r s (same others (take (length others) next))));
        rest = c.rest ∙ rw (e, length-append first others) (sym (drop-drop (length others) (length first) out)) ∙ ap (drop (length others)) (sym m.rest);
        room = omega (arith, c.room);
      }

  -- none is left
  pub compare-done : words ≡ [] → (all ≡ r) × (end ≡ out)
  compare-done e = (c.same ∙ rw e (and-true r), c.rest ∙ rw e)
