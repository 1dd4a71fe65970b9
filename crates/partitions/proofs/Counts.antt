-- How many postings each identifier has, posting by posting.
use Rattle.lists.proofs.Prelude.{Bool, true, false, not, cond, List, [], ◌∷◌, ◌++◌, map, ◌≡◌, refl, sym, ap, ◌∙◌, ℕ, zero, suc, ◌+◌, ◌<◌, ◌≤◌, arith, eqb, length, get_or, set, replicate, length-append, length-map, length-set, ext_get_or, get_or-set_same, get_or-set_other, eqb-true, eqb-false, eq-eqb, ne_eqb, keep, rising, up_to, by-test, keep_append, length-rising, up_to-at}
use Rattle.postings.specs.declared.Posting.{Posting}
use Rattle.postings.specs.Sums.{under}
use Rattle.partitions.specs.Layout.{identifiers_of, term_count}

-- how many postings a posting more makes under each identifier
length-under : (i : ℕ) (l : List Posting) (p : Posting) → length (under i (l ++ (p ∷ []))) ≡ length (under i l) + cond (eqb p.id i) 1 0
length-under i l p =
    ap length (keep_append (λ q. eqb q.id i) l (p ∷ []))
    ∙ length-append (under i l) (under i (p ∷ []))
    ∙ ap (λ (n : ℕ). length (under i l) + n) (by-test (eqb p.id i) (λ y. rw y) (λ n. rw n))

-- the numbers of postings by identifier
abbrev pub numbers : List Posting → List ℕ
numbers l = map (λ i. length (under i l)) (up_to 1024)

pub length-numbers : (l : List Posting) → length (numbers l) ≡ 1024
length-numbers l = length-map (up_to 1024) (λ i. length (under i l)) ∙ length-rising 0 1024

pub number_at : (l : List Posting) (i : ℕ) → i < 1024 → get_or (numbers l) i 0 ≡ length (under i l)
number_at l i h = up_to-at (λ j. length (under j l)) 1024 i 0 h

-- with a posting more
pub numbers_more : (l : List Posting) (p : Posting) → p.id ≤ 1023 → numbers (l ++ (p ∷ [])) ≡ set (numbers l) p.id (get_or (numbers l) p.id 0 + 1)
numbers_more l p h =
    ext_get_or 0 (numbers (l ++ (p ∷ []))) (set (numbers l) p.id (get_or (numbers l) p.id 0 + 1))
    (length-numbers (l ++ (p ∷ [])) ∙ sym (length-set (numbers l) p.id (get_or (numbers l) p.id 0 + 1) ∙ length-numbers l))
    (λ i b. let c : i < 1024 = omega (arith, length-numbers (l ++ (p ∷ []))) in
    number_at (l ++ (p ∷ [])) i c ∙ length-under i l p ∙ each i c)
  where
    each : (i : ℕ) → i < 1024 → length (under i l) + cond (eqb p.id i) 1 0 ≡ get_or (set (numbers l) p.id (get_or (numbers l) p.id 0 + 1)) i 0
    each i c =
        by-test (eqb p.id i)
        (λ y. let e = eqb-true p.id i y in
        rw (y, ← e, get_or-set_same (numbers l) p.id (get_or (numbers l) p.id 0 + 1) 0 (omega (arith, length-numbers l)), number_at l p.id (omega arith)))
        (λ n. let e : p.id ≡ i → ⊥ = eqb-false p.id i n in
        rw (n, get_or-set_other (numbers l) p.id i (get_or (numbers l) p.id 0 + 1) 0 (λ s. e (sym s)), number_at l i c) (omega arith))

-- which identifiers there are with it
identifiers-more : (l : List Posting) (p : Posting) → identifiers_of (l ++ (p ∷ [])) ≡ identifiers_of l ++ cond (eqb (length (under p.id l)) 0) (p.id ∷ []) []
identifiers-more [] p = refl
identifiers-more (q ∷ l) p =
    by-test (eqb q.id p.id)
    (λ y. let e = eqb-true q.id p.id y in
    let z : not (eqb p.id q.id) ≡ false = rw (eq-eqb p.id q.id (sym e)) in
    rw (y, ne_eqb (suc (length (under p.id l))) 0 (λ s. omega arith)) (first (identifiers-more l p) (gone z (eqb (length (under p.id l)) 0))))
    (λ n. let e : q.id ≡ p.id → ⊥ = eqb-false q.id p.id n in
    let z : not (eqb p.id q.id) ≡ true = rw (ne_eqb p.id q.id (λ s. e (sym s))) in
    rw n (first (identifiers-more l p) (kept z (eqb (length (under p.id l)) 0))))
  where
    gone : not (eqb p.id q.id) ≡ false → (t : Bool) → keep (λ i. not (eqb i q.id)) (cond t (p.id ∷ []) []) ≡ []
    gone z true = rw z
    gone z false = refl

    kept : not (eqb p.id q.id) ≡ true → (t : Bool) → keep (λ i. not (eqb i q.id)) (cond t (p.id ∷ []) []) ≡ cond t (p.id ∷ []) []
    kept z true = rw z
    kept z false = refl

    first : {r : List ℕ} → identifiers_of (l ++ (p ∷ [])) ≡ identifiers_of l ++ cond (eqb (length (under p.id l)) 0) (p.id ∷ []) []
        → keep (λ i. not (eqb i q.id)) (cond (eqb (length (under p.id l)) 0) (p.id ∷ []) []) ≡ r
        → q.id ∷ keep (λ i. not (eqb i q.id)) (identifiers_of (l ++ (p ∷ []))) ≡ q.id ∷ (keep (λ i. not (eqb i q.id)) (identifiers_of l) ++ r)
    first more e =
        ap (λ (m : List ℕ). q.id ∷ m)
        (ap (keep (λ i. not (eqb i q.id))) more
        ∙ keep_append (λ i. not (eqb i q.id)) (identifiers_of l) (cond (eqb (length (under p.id l)) 0) (p.id ∷ []) [])
        ∙ ap (λ (m : List ℕ). keep (λ i. not (eqb i q.id)) (identifiers_of l) ++ m) e)

-- one identifier more where it had no posting
pub terms-more : (l : List Posting) (p : Posting) → p.id ≤ 1023 → term_count (l ++ (p ∷ [])) ≡ cond (eqb (get_or (numbers l) p.id 0) 0) (term_count l + 1) (term_count l)
terms-more l p h =
    ap length (identifiers-more l p)
    ∙ length-append (identifiers_of l) (cond (eqb (length (under p.id l)) 0) (p.id ∷ []) [])
    ∙ rw (number_at l p.id (omega arith)) (pick (eqb (length (under p.id l)) 0))
  where
    pick : (t : Bool) → length (identifiers_of l) + length (cond t (p.id ∷ []) []) ≡ cond t (term_count l + 1) (term_count l)
    pick true = refl
    pick false = omega arith

no-numbers : (n k : ℕ) → map {B = ℕ} (λ i. 0) (rising n k) ≡ replicate k 0
unfolding rising
no-numbers n zero = refl
no-numbers n (suc k) = ap (λ (r : List ℕ). 0 ∷ r) (no-numbers (suc n) k)

-- of no postings there are none
pub numbers-none : numbers [] ≡ replicate 1024 0
numbers-none = no-numbers 0 1024
