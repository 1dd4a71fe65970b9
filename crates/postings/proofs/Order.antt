-- The order of postings is strict and leaves no two pairs aside, and an ordered list has each pair once.
use Rattle.lists.proofs.Prelude.{Bool, true, false, ◌&&◌, true≢false, and-false, List, [], ◌∷◌, ◌⊎◌, inl, inr, ◌≡◌, refl, ap₂, ◌<◌, ◌≤◌, arith, ltb, eqb, ltb-true, ltb-false, eqb-true, eqb-false, lt-ltb, le-ltb, eq-eqb, keep, any, every, by-test, and_left, and_right, and_both, or_right, every-from, every-keep, eqb_swap, near_next}
use Rattle.postings.specs.Order.{precedes, same_pair, ordered}
use Rattle.postings.specs.declared.Posting.{Posting}

-- what the order says of two postings
pub precedes-cases : (p q : Posting) → precedes p q ≡ true → (p.id < q.id) ⊎ ((p.id ≡ q.id) × (q.window < p.window))
precedes-cases p q e =
    by-test (ltb p.id q.id) (λ y. inl (ltb-true p.id q.id y))
    (λ n. let r : (eqb p.id q.id && ltb q.window p.window) ≡ true = rw n at e in
    inr (eqb-true p.id q.id (and_left _ _ r), ltb-true q.window p.window (and_right (eqb p.id q.id) _ r)))

-- a posting of a lower identifier stands before
pub precedes-id : (p q : Posting) → p.id < q.id → precedes p q ≡ true
precedes-id p q h = rw (lt-ltb p.id q.id h)

-- under one identifier a posting of a higher window stands before
pub precedes-window : (p q : Posting) → p.id ≡ q.id → q.window < p.window → precedes p q ≡ true
precedes-window p q e h =
    or_right (ltb p.id q.id) _ (and_both (eqb p.id q.id) _ (eq-eqb p.id q.id e) (lt-ltb q.window p.window h))

-- what stands before what stands before r stands before r
pub precedes-trans : (p q r : Posting) → precedes p q ≡ true → precedes q r ≡ true → precedes p r ≡ true
precedes-trans p q r e f = go (precedes-cases p q e) (precedes-cases q r f)
  where
    go : (p.id < q.id) ⊎ ((p.id ≡ q.id) × (q.window < p.window)) → (q.id < r.id) ⊎ ((q.id ≡ r.id) × (r.window < q.window)) → precedes p r ≡ true
    go (inl a) (inl b) = precedes-id p r (omega arith)
    go (inl a) (inr b) = precedes-id p r (omega arith)
    go (inr a) (inl b) = precedes-id p r (omega arith)
    go (inr a) (inr b) = precedes-window p r (omega arith) (omega arith)

-- no posting stands before itself
pub precedes-irreflexive : (p : Posting) → precedes p p ≡ false
precedes-irreflexive p = rw (le-ltb p.id p.id (omega arith), le-ltb p.window p.window (omega arith)) (and-false (eqb p.id p.id))

-- one pair: one identifier and one window
pub same-pair : (p q : Posting) → same_pair p q ≡ true → (p.id ≡ q.id) × (p.window ≡ q.window)
same-pair p q e = (eqb-true p.id q.id (and_left _ _ e), eqb-true p.window q.window (and_right (eqb p.id q.id) _ e))

-- of two postings of different pairs one stands before the other
pub precedes-total : (p q : Posting) → same_pair p q ≡ false → precedes p q ≡ false → precedes q p ≡ true
precedes-total p q e f =
    by-test (ltb p.id q.id) (λ y. absurd (true≢false (rw y at f)))
    (λ n. let l : q.id ≤ p.id = ltb-false p.id q.id n in
    by-test (eqb p.id q.id)
    (λ y. let i : p.id ≡ q.id = eqb-true p.id q.id y in
    let a : eqb p.window q.window ≡ false = rw y at e in
    let b : ltb q.window p.window ≡ false = rw (n, y) at f in
    let d : p.window ≡ q.window → ⊥ = eqb-false p.window q.window a in
    let m : p.window ≤ q.window = ltb-false q.window p.window b in
    precedes-window q p (omega arith) (omega arith))
    (λ m. let d : p.id ≡ q.id → ⊥ = eqb-false p.id q.id m in precedes-id q p (omega arith)))

-- of one pair, either way round
pub same-swap : (p q : Posting) → same_pair p q ≡ same_pair q p
same-swap p q = ap₂ ◌&&◌ (eqb_swap p.id q.id) (eqb_swap p.window q.window)

-- a posting that stands before another is of another pair
pub precedes-apart : (p q : Posting) → precedes p q ≡ true → same_pair p q ≡ false
precedes-apart p q e =
    by-test (same_pair p q) (λ y. let s = same-pair p q y in go s (precedes-cases p q e)) (λ n. n)
  where
    go : (p.id ≡ q.id) × (p.window ≡ q.window) → (p.id < q.id) ⊎ ((p.id ≡ q.id) × (q.window < p.window)) → same_pair p q ≡ false
    go s (inl a) = absurd (omega arith)
    go s (inr a) = absurd (omega arith)

-- what stands before the first posting of an ordered list stands before all of them
pub before-all : (p q : Posting) (l : List Posting) → precedes p q ≡ true → ordered (q ∷ l) ≡ true → every (precedes p) (q ∷ l) ≡ true
before-all p q l e o =
    let f = and_left (every (precedes q) l) _ o in
    and_both (precedes p q) _ e (every-from (precedes q) (precedes q) (precedes p) (λ r g h. precedes-trans p q r e g) l f f)

-- a list is ordered where each posting stands before the next
pub ordered-next : (p q : Posting) (l : List Posting) → ordered (p ∷ q ∷ l) ≡ (precedes p q && ordered (q ∷ l))
ordered-next = near_next ordered precedes (λ p l. refl) precedes-trans

-- any part of an ordered list, as it stands, is ordered
pub keep-ordered : (t : Posting → Bool) (l : List Posting) → ordered l ≡ true → ordered (keep t l) ≡ true
keep-ordered t [] e = refl
keep-ordered t (p ∷ l) e =
    let r = keep-ordered t l (and_right (every (precedes p) l) _ e) in
    by-test (t p) (λ y. rw y (and_both (every (precedes p) (keep t l)) _ (every-keep t (precedes p) l (and_left _ _ e)) r)) (λ n. rw n r)

-- what stands before all of a list is of a pair that the list does not have
pub any-before : (p : Posting) (l : List Posting) → every (precedes p) l ≡ true → any (same_pair p) l ≡ false
any-before p [] e = refl
any-before p (q ∷ l) e = rw (precedes-apart p q (and_left _ _ e), any-before p l (and_right (precedes p q) _ e))
