-- How many identifiers postings have: joined, at most those of both; merged, at most theirs.
use Rattle.lists.proofs.Prelude.{Bool, true, not, List, [], ◌∷◌, ◌++◌, ◌≡◌, refl, ◌∙◌, ℕ, ◌+◌, ◌≤◌, arith, eqb, length, length-append, eq-eqb, not-true, every, elem, different, by-test, and_both, every_append, every-from, every-keep, every-kept, none_from, elem-keep, elem-left, elem-right, different-keep, different-within, eqb_swap}
use Rattle.postings.specs.declared.Posting.{Posting}
use Rattle.postings.specs.Merge.{is_counted, nonzero, pairs}
use Rattle.postings.proofs.Merge.{every-puts}
use Rattle.partitions.specs.Layout.{identifiers_of, term_count}
use Rattle.partitions.proofs.Groups.{others, every-identifier}

-- is a posting's identifier in a list
abbrev pub named : List ℕ → Posting → Bool
named is p = elem p.id is

-- identifiers that stand in a list stand in one that has its numbers
named_more : (is js : List ℕ) → ((i : ℕ) → elem i is ≡ true → elem i js ≡ true) → (ps : List Posting) → every (named is) ps ≡ true → every (named js) ps ≡ true
named_more is js h ps e = every-from (named is) (named is) (named js) (λ p y z. h p.id y) ps e e

-- no identifier is listed twice
pub identifiers-different : (ps : List Posting) → different (identifiers_of ps) ≡ true
identifiers-different [] = refl
identifiers-different (p ∷ ps) =
    let other : ℕ → Bool = λ i. not (eqb i p.id) in
    rw (none_from other (λ i. eqb i p.id) (λ i y. not-true _ y) (others p ps) (every-kept other (identifiers_of ps)))
    (different-keep other (identifiers_of ps) (identifiers-different ps))

-- every posting's identifier is listed
pub identifiers-all : (ps : List Posting) → every (named (identifiers_of ps)) ps ≡ true
identifiers-all [] = refl
identifiers-all (p ∷ ps) = rw (eq-eqb p.id p.id refl) (named_more (identifiers_of ps) (identifiers_of (p ∷ ps)) more ps (identifiers-all ps))
  where
    more : (i : ℕ) → elem i (identifiers_of ps) ≡ true → elem i (identifiers_of (p ∷ ps)) ≡ true
    more i y =
        by-test (eqb p.id i) (λ s. rw s)
        (λ n. rw n (elem-keep (λ j. not (eqb j p.id)) (identifiers_of ps) i (rw (eqb_swap i p.id, n)) y))

-- postings whose identifiers all stand in a list have at most as many as it has
pub terms-within : (ps : List Posting) (is : List ℕ) → every (named is) ps ≡ true → term_count ps ≤ length is
terms-within ps is e = different-within (identifiers_of ps) is (identifiers-different ps) (every-identifier (λ i. elem i is) ps e)

-- postings joined have at most the identifiers of both
pub terms-append : (l m : List Posting) → term_count (l ++ m) ≤ term_count l + term_count m
terms-append l m =
    let x = identifiers_of l in
    let y = identifiers_of m in
    let all =
    every_append (named (x ++ y)) l m
    ∙ and_both (every (named (x ++ y)) l) _
    (named_more x (x ++ y) (λ i. elem-left i x y) l (identifiers-all l))
    (named_more y (x ++ y) (λ i. elem-right i x y) m (identifiers-all m)) in
    omega (arith, length-append x y, terms-within (l ++ m) (x ++ y) all)

-- postings merged have at most their identifiers
pub terms-merged : (l : List Posting) → term_count (nonzero (pairs l)) ≤ term_count l
unfolding nonzero pairs
terms-merged l =
    let is = identifiers_of l in
    terms-within (nonzero (pairs l)) is (every-keep is_counted (named is) (pairs l) (every-puts (named is) (λ q c y. y) l [] (identifiers-all l) refl))
