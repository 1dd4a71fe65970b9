-- The numbers of a query's identifiers: they differ where the identifiers do, and the postings stored under them are then those of each.
use Rattle.lists.proofs.Prelude.{true, false, cond, not, List, [], ◌∷◌, map, ◌≡◌, refl, sym, ap, ◌∙◌, ℕ, ◌+◌, ◌<◌, ◌≤◌, arith, ltb, eqb, length, get_or, length-map, ltb-true, eqb-true, eqb-false, eq-eqb, ne_eqb, not-true, keep, elem, different, total_by, same, by-test, and_left, and_right, or-none, length-keep, same_false}
use Rattle.postings.specs.declared.Posting.{Posting}
use Rattle.postings.specs.Sums.{under}
use Rattle.state.specs.declared.State.{State}
use Rattle.identifiers.specs.Names.{Name, among, distinct, number_of, numbers_of}
use Rattle.identifiers.proofs.Names.{number-among, number_at}
use Rattle.partitions.specs.Reading.{stored}
use Rattle.queries.specs.Query.{taken_up}

-- there are at most as many numbers as identifiers
pub numbers-few : (ms ns : List Name) → length (numbers_of ms ns) ≤ length ns
unfolding numbers_of
numbers-few ms ns = omega (arith, length-keep (λ i. ltb i (length ms)) (map (number_of ms) ns), length-map ns (number_of ms))

-- ---- numbers that differ

-- a number tells its identifier
number-name : (ms : List Name) (m n : Name) → number_of ms n < length ms → number_of ms m ≡ number_of ms n → m ≡ n
number-name ms m n h e =
    sym (number_at ms m (number-among ms m (omega arith))) ∙ ap (λ (i : ℕ). get_or ms i []) e ∙ number_at ms n (number-among ms n h)

-- so that of an identifier that is not among others is not among theirs
number-apart : (ms : List Name) (n : Name) (ns : List Name) → number_of ms n < length ms → among n ns ≡ false → elem (number_of ms n) (numbers_of ms ns) ≡ false
unfolding numbers_of
number-apart ms n [] h e = refl
number-apart ms n (m ∷ ns) h e =
    let o = or-none (same m n) _ e in
    let r = number-apart ms n ns h o.1 in
    by-test (ltb (number_of ms m) (length ms))
    (λ y. rw (y, ne_eqb (number_of ms m) (number_of ms n) (λ q. same_false m n o.0 (number-name ms m n h q))) r)
    (λ z. rw z r)

-- the numbers of different identifiers differ
pub numbers-different : (ms ns : List Name) → distinct ns ≡ true → different (numbers_of ms ns) ≡ true
unfolding numbers_of
numbers-different ms [] e = refl
numbers-different ms (n ∷ ns) e =
    let r = numbers-different ms ns (and_right (not (among n ns)) _ e) in
    by-test (ltb (number_of ms n) (length ms))
    (λ y. let a = number-apart ms n ns (ltb-true _ _ y) (not-true _ (and_left (not (among n ns)) _ e)) in rw (y, a) r)
    (λ z. rw z r)

-- ---- the postings stored under them

-- how often a number stands among them
times : ℕ → List ℕ → ℕ
times n is = total_by (λ i. cond (eqb n i) 1 0) is

times_none : (n : ℕ) (is : List ℕ) → elem n is ≡ false → times n is ≡ 0
unfolding times
times_none n [] e = refl
times_none n (i ∷ is) e =
    let o = or-none (eqb i n) _ e in
    let r = times_none n is o.1 in
    rw (ne_eqb n i (λ q. eqb-false i n o.0 (sym q))) (omega arith)

times-once : (n : ℕ) (is : List ℕ) → different is ≡ true → times n is ≡ cond (elem n is) 1 0
unfolding times
times-once n [] d = refl
times-once n (i ∷ is) d =
    let a = not-true (elem i is) (and_left (not (elem i is)) _ d) in
    by-test (eqb i n)
    (λ y. let q : i ≡ n = eqb-true i n y in rw (y, eq-eqb n i (sym q)) (let r = times_none n is (rw q at a) in omega arith))
    (λ z. let r = times-once n is (and_right (not (elem i is)) _ d) in rw (z, ne_eqb n i (λ q. eqb-false i n z (sym q))) (omega arith))

-- one posting more
stored_more : (p : Posting) (l : List Posting) (is : List ℕ) → total_by (λ i. length (under i (p ∷ l))) is ≡ times p.id is + total_by (λ i. length (under i l)) is
unfolding times
stored_more p l [] = refl
stored_more p l (i ∷ is) =
    let r = stored_more p l is in
    by-test (eqb p.id i) (λ y. rw y (omega arith)) (λ n. rw n (omega arith))

-- what is stored under different identifiers is what is stored under each
stored-each : (l : List Posting) (is : List ℕ) → different is ≡ true → length (keep (λ p. elem p.id is) l) ≡ total_by (λ i. length (under i l)) is
stored-each [] is d = none is
  where
    none : (is : List ℕ) → 0 ≡ total_by (λ (i : ℕ). 0) is
    none [] = refl
    none (i ∷ is) = let r = none is in omega arith
stored-each (p ∷ l) is d =
    let r = stored-each l is d in
    let m = stored_more p l is in
    let t = times-once p.id is d in
    by-test (elem p.id is) (λ y. let u : times p.id is ≡ 1 = rw y at t in rw y (omega arith)) (λ n. let u : times p.id is ≡ 0 = rw n at t in rw n (omega arith))

pub taken-each : (W : List ℕ) (s : State) (is : List ℕ) → different is ≡ true → taken_up W s is ≡ total_by (λ i. length (under i (stored W s))) is
unfolding taken_up
taken-each W s is d = stored-each (stored W s) is d
