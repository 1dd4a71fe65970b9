-- Ordered postings stand in groups, one for each identifier, by rising identifier.
use Rattle.lists.proofs.Prelude.{subst, Bool, true, not, List, [], ◌∷◌, ◌++◌, map, tail-eq_of_cons-eq, ◌⊎◌, inl, inr, ◌≡◌, refl, sym, ap, ◌∙◌, ℕ, suc, ◌+◌, ◌<◌, ◌≤◌, add-zero, arith, eqb, ltb, leb, length, ltb-true, ltb-false, leb-true, eqb-true, eqb-false, lt-ltb, le-ltb, le-leb, eq-eqb, ne_eqb, not-true, keep, every, total_by, joined, by-test, and_left, and_right, and_both, every-from, every-keep, every-kept, keep_all, keep-none, none_from, map-where, length-all}
use Rattle.postings.specs.declared.Posting.{Posting}
use Rattle.postings.specs.Order.{precedes, ordered}
use Rattle.postings.specs.Sums.{under}
use Rattle.postings.proofs.Order.{precedes-cases}
use Rattle.partitions.specs.Layout.{identifiers_of}
use Rattle.partitions.specs.Formed.{ascending, running}

-- the postings of lower identifiers
abbrev pub lower : ℕ → List Posting → List Posting
lower i ps = keep (λ p. ltb p.id i) ps

-- and of higher ones
abbrev pub higher : ℕ → List Posting → List Posting
higher i ps = keep (λ p. ltb i p.id) ps

-- the identifiers of the postings after p, without p's
abbrev pub others : Posting → List Posting → List ℕ
others p ps = keep (λ i. not (eqb i p.id)) (identifiers_of ps)

-- a test of identifiers that all postings' pass
pub every-identifier : (t : ℕ → Bool) (ps : List Posting) → every (λ p. t p.id) ps ≡ true → every t (identifiers_of ps) ≡ true
every-identifier t [] e = refl
every-identifier t (p ∷ ps) e =
    and_both (t p.id) _ (and_left (t p.id) _ e)
    (every-keep (λ i. not (eqb i p.id)) t (identifiers_of ps) (every-identifier t ps (and_right (t p.id) _ e)))

-- Order ------------------------------------------------------------------------------------------------------------

-- a posting's identifier is not above that of one it stands before
from : (p q : Posting) → precedes p q ≡ true → leb p.id q.id ≡ true
from p q e = go (precedes-cases p q e)
  where
    go : (p.id < q.id) ⊎ ((p.id ≡ q.id) × (q.window < p.window)) → leb p.id q.id ≡ true
    go (inl a) = le-leb p.id q.id (omega arith)
    go (inr a) = le-leb p.id q.id (omega arith)

-- nor above that of any later posting
pub rest_from : (p : Posting) (ps : List Posting) → ordered (p ∷ ps) ≡ true → every (λ q. leb p.id q.id) ps ≡ true
rest_from p ps o =
    let e = and_left (every (precedes p) ps) _ o in
    every-from (precedes p) (precedes p) (λ q. leb p.id q.id) (λ q a b. from p q a) ps e e

-- what follows the first of ordered postings is ordered
pub rest-ordered : (p : Posting) (ps : List Posting) → ordered (p ∷ ps) ≡ true → ordered ps ≡ true
rest-ordered p ps o = and_right (every (precedes p) ps) _ o

-- p's identifier leads those of the postings after it, or is none of theirs
after : (p : Posting) (ps : List Posting) → ordered (p ∷ ps) ≡ true
    → (identifiers_of ps ≡ p.id ∷ others p ps) ⊎ ((under p.id ps ≡ []) × (others p ps ≡ identifiers_of ps))
after p [] o = inr (refl, refl)
after p (q ∷ qs) o =
    by-test (eqb q.id p.id)
    (λ y. let e : q.id ≡ p.id = eqb-true q.id p.id y in
    let t : ℕ → Bool = λ i. not (eqb i p.id) in
    let k : keep t (keep t (identifiers_of qs)) ≡ keep t (identifiers_of qs) = keep_all t (keep t (identifiers_of qs)) (every-kept t (identifiers_of qs)) in
    let P : ℕ → Type 0 = λ m. (m ∷ keep (λ i. not (eqb i m)) (identifiers_of qs)) ≡ p.id ∷ keep t (m ∷ keep (λ i. not (eqb i m)) (identifiers_of qs)) in
    inl (subst P (sym e) (rw (eq-eqb p.id p.id refl, k))))
    (λ n. let d : q.id ≡ p.id → ⊥ = eqb-false q.id p.id n in
    let l : p.id ≤ q.id = leb-true p.id q.id (and_left _ _ (rest_from p (q ∷ qs) o)) in
    let g = rest_from q qs (rest-ordered p (q ∷ qs) o) in
    let a : every (λ r. ltb p.id r.id) (q ∷ qs) ≡ true =
    and_both (ltb p.id q.id) _ (lt-ltb p.id q.id (omega arith))
    (every-from (λ r. leb q.id r.id) (λ r. leb q.id r.id) (λ r. ltb p.id r.id)
    (λ r u v. let m : q.id ≤ r.id = leb-true q.id r.id u in lt-ltb p.id r.id (omega arith)) qs g g) in
    inr (
      keep-none (λ r. eqb r.id p.id) (q ∷ qs)
          (none_from (λ r. ltb p.id r.id) (λ r. eqb r.id p.id)
          (λ r u. let m : p.id < r.id = ltb-true p.id r.id u in ne_eqb r.id p.id (λ z. omega arith)) (q ∷ qs) a),
      keep_all (λ i. not (eqb i p.id)) (identifiers_of (q ∷ qs))
          (every-identifier (λ i. not (eqb i p.id)) (q ∷ qs)
          (every-from (λ r. ltb p.id r.id) (λ r. ltb p.id r.id) (λ r. not (eqb r.id p.id))
          (λ r u v. let m : p.id < r.id = ltb-true p.id r.id u in rw (ne_eqb r.id p.id (λ z. omega arith))) (q ∷ qs) a a)),
    ))

-- the identifiers after p's are above it
pub others-above : (p : Posting) (ps : List Posting) → ordered (p ∷ ps) ≡ true → every (ltb p.id) (others p ps) ≡ true
others-above p ps o =
    every-from (leb p.id) (λ i. not (eqb i p.id)) (ltb p.id)
    (λ i a b. let l : p.id ≤ i = leb-true p.id i a in let d : i ≡ p.id → ⊥ = eqb-false i p.id (not-true _ b) in lt-ltb p.id i (omega arith))
    (others p ps)
    (every-keep (λ i. not (eqb i p.id)) (leb p.id) (identifiers_of ps) (every-identifier (leb p.id) ps (rest_from p ps o)))
    (every-kept (λ i. not (eqb i p.id)) (identifiers_of ps))

ascending-keep : (t : ℕ → Bool) (l : List ℕ) → ascending l ≡ true → ascending (keep t l) ≡ true
ascending-keep t [] e = refl
ascending-keep t (n ∷ l) e =
    let r = ascending-keep t l (and_right (every (ltb n) l) _ e) in
    by-test (t n) (λ y. rw y (and_both (every (ltb n) (keep t l)) _ (every-keep t (ltb n) l (and_left _ _ e)) r)) (λ f. rw f r)

-- the identifiers of ordered postings rise
pub identifiers-ascending : (ps : List Posting) → ordered ps ≡ true → ascending (identifiers_of ps) ≡ true
identifiers-ascending [] o = refl
identifiers-ascending (p ∷ ps) o =
    and_both (every (ltb p.id) (others p ps)) _ (others-above p ps o)
    (ascending-keep (λ i. not (eqb i p.id)) (identifiers_of ps) (identifiers-ascending ps (rest-ordered p ps o)))

-- One identifier ---------------------------------------------------------------------------------------------------

-- ordered postings are those of lower identifiers, those of i, and those of higher ones
pub parted : (i : ℕ) (ps : List Posting) → ordered ps ≡ true → ps ≡ lower i ps ++ (under i ps ++ higher i ps)
parted i [] o = refl
parted i (p ∷ ps) o =
    let ih = parted i ps (rest-ordered p ps o) in
    let g = rest_from p ps o in
    by-test (ltb p.id i)
    (λ y. let l : p.id < i = ltb-true p.id i y in
    rw (y, ne_eqb p.id i (λ z. omega arith), le-ltb i p.id (omega arith)) (ap (λ (r : List Posting). p ∷ r) ih))
    (λ f. let l : i ≤ p.id = ltb-false p.id i f in
    let a : lower i ps ≡ [] =
    keep-none (λ q. ltb q.id i) ps
    (none_from (λ q. leb p.id q.id) (λ q. ltb q.id i)
    (λ q u. let m : p.id ≤ q.id = leb-true p.id q.id u in le-ltb q.id i (omega arith)) ps g) in
    by-test (eqb p.id i)
    (λ y. let e : p.id ≡ i = eqb-true p.id i y in
    rw (f, y, le-ltb i p.id (omega arith), a) (ap (λ (r : List Posting). p ∷ r) (rw a at ih)))
    (λ n. let d : p.id ≡ i → ⊥ = eqb-false p.id i n in
    let b : under i ps ≡ [] =
    keep-none (λ q. eqb q.id i) ps
    (none_from (λ q. leb p.id q.id) (λ q. eqb q.id i)
    (λ q u. let m : p.id ≤ q.id = leb-true p.id q.id u in ne_eqb q.id i (λ z. omega arith)) ps g) in
    rw (f, n, lt-ltb i p.id (omega arith), a, b) (ap (λ (r : List Posting). p ∷ r) (rw (a, b) at ih))))

-- All identifiers --------------------------------------------------------------------------------------------------

-- the postings of each identifier, one group after another, are the postings
pub grouped : (ps : List Posting) → ordered ps ≡ true → joined (map (λ i. under i ps) (identifiers_of ps)) ≡ ps
grouped [] o = refl
grouped (p ∷ ps) o =
    let ih = grouped ps (rest-ordered p ps o) in
    let e : map (λ i. under i (p ∷ ps)) (others p ps) ≡ map (λ i. under i ps) (others p ps) =
    map-where (ltb p.id) (λ i. under i (p ∷ ps)) (λ i. under i ps)
    (λ i u. let l : p.id < i = ltb-true p.id i u in rw (ne_eqb p.id i (λ z. omega arith))) (others p ps) (others-above p ps o) in
    rw (eq-eqb p.id p.id refl, e) (ap (λ (r : List Posting). p ∷ r) (go ih (after p ps o)))
  where
    go : joined (map (λ i. under i ps) (identifiers_of ps)) ≡ ps → (identifiers_of ps ≡ p.id ∷ others p ps) ⊎ ((under p.id ps ≡ []) × (others p ps ≡ identifiers_of ps))
        → under p.id ps ++ joined (map (λ i. under i ps) (others p ps)) ≡ ps
    go ih (inl a) = sym (ap (λ (l : List ℕ). joined (map (λ i. under i ps) l)) a) ∙ ih
    go ih (inr a) = rw (a.0, a.1) ih

-- each has at least one posting
pub groups-some : (ps : List Posting) → every (λ i. leb 1 (length (under i ps))) (identifiers_of ps) ≡ true
groups-some [] = refl
groups-some (p ∷ ps) =
    let ih = groups-some ps in
    let t : ℕ → Bool = λ i. leb 1 (length (under i ps)) in
    let u : ℕ → Bool = λ i. leb 1 (length (under i (p ∷ ps))) in
    and_both (u p.id) _ (rw (eq-eqb p.id p.id refl) (le-leb 1 (suc (length (under p.id ps))) (omega arith)))
    (every-keep (λ i. not (eqb i p.id)) u (identifiers_of ps)
    (every-from t t u
    (λ i a b. by-test (eqb p.id i) (λ y. rw y (le-leb 1 (suc (length (under i ps))) (omega arith))) (λ n. rw n a)) (identifiers_of ps) ih ih))

-- and the groups have all postings together
pub groups-total : (ps : List Posting) → ordered ps ≡ true → total_by (λ i. length (under i ps)) (identifiers_of ps) ≡ length ps
groups-total ps o = sym (length-all (λ i. under i ps) (identifiers_of ps)) ∙ ap length (grouped ps o)

-- the postings before a group are those of lower identifiers
pub groups-running : (ps : List Posting) → ordered ps ≡ true → (n : ℕ)
    → running n (map (λ i. length (under i ps)) (identifiers_of ps)) ≡ map (λ i. n + length (lower i ps)) (identifiers_of ps)
groups-running [] o n = refl
groups-running (p ∷ ps) o n =
    let ih = groups-running ps (rest-ordered p ps o) (suc n) in
    let above = others-above p ps o in
    let e : map (λ i. length (under i (p ∷ ps))) (others p ps) ≡ map (λ i. length (under i ps)) (others p ps) =
    map-where (ltb p.id) (λ i. length (under i (p ∷ ps))) (λ i. length (under i ps))
    (λ i u. let l : p.id < i = ltb-true p.id i u in rw (ne_eqb p.id i (λ z. omega arith))) (others p ps) above in
    let f : map (λ i. n + length (lower i (p ∷ ps))) (others p ps) ≡ map (λ i. suc n + length (lower i ps)) (others p ps) =
    map-where (ltb p.id) (λ i. n + length (lower i (p ∷ ps))) (λ i. suc n + length (lower i ps))
    (λ i u. rw u (omega arith)) (others p ps) above in
    let z : lower p.id ps ≡ [] =
    keep-none (λ q. ltb q.id p.id) ps
    (none_from (λ q. leb p.id q.id) (λ q. ltb q.id p.id)
    (λ q u. le-ltb q.id p.id (leb-true p.id q.id u)) ps (rest_from p ps o)) in
    rw (eq-eqb p.id p.id refl, le-ltb p.id p.id (omega arith), e, f, z, add-zero n)
    (ap (λ (r : List ℕ). n ∷ r) (go ih (after p ps o)))
  where
    go : running (suc n) (map (λ i. length (under i ps)) (identifiers_of ps)) ≡ map (λ i. suc n + length (lower i ps)) (identifiers_of ps)
        → (identifiers_of ps ≡ p.id ∷ others p ps) ⊎ ((under p.id ps ≡ []) × (others p ps ≡ identifiers_of ps))
        → running (n + suc (length (under p.id ps))) (map (λ i. length (under i ps)) (others p ps)) ≡ map (λ i. suc n + length (lower i ps)) (others p ps)
    go ih (inl a) =
        let m : n + suc (length (under p.id ps)) ≡ suc n + length (under p.id ps) = omega arith in
        rw m (tail-eq_of_cons-eq (rw a at ih))
    go ih (inr a) =
        let m : n + 1 ≡ suc n = omega arith in
        rw (a.0, m, a.1) ih
