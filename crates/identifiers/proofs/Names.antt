-- Laws of identifiers in a list: which is among them, whether they differ, and their numbers.
use Rattle.lists.proofs.Prelude.{Bool, true, false, ◌&&◌, ◌||◌, not, cond, or-false, or_comm, List, [], ◌∷◌, ◌++◌, ◌≡◌, refl, sym, ◌∙◌, ℕ, zero, suc, ◌<◌, ◌≤◌, arith, leb, not-true, leb-true, leb-false, le-leb, lt-leb, length, get_or, take, drop, take-append-drop, drop-cons, take-suc, same, by-test, and_left, and_right, or-none, same_refl, same_true, same-swap, any_at, any_append}
use Rattle.identifiers.specs.Names.{Name, among, distinct, number_of}

-- The number of an identifier ---------------------------------------------------------------------------------------

-- a number is at most how many there are
pub number-within : (ms : List Name) (n : Name) → number_of ms n ≤ length ms
number-within [] n = omega arith
number-within (m ∷ ms) n =
    let h = number-within ms n in
    by-test (same m n) (λ e. rw e (omega arith)) (λ e. rw e (omega arith))

-- an identifier that is there has a number below how many there are
pub number-there : (ms : List Name) (n : Name) → among n ms ≡ true → number_of ms n < length ms
number-there [] n e = let z : ◌≡◌ {A = ℕ} 0 1 = cc in absurd (omega arith)
number-there (m ∷ ms) n e =
    by-test
    (same m n)
    (λ y. rw y (omega arith))
    (λ y. let h = number-there ms n (rw y at e) in rw y (omega arith))

-- and one that is not there has the number that it would get
pub number-none : (ms : List Name) (n : Name) → among n ms ≡ false → number_of ms n ≡ length ms
number-none [] n e = refl
number-none (m ∷ ms) n e = let h = or-none (same m n) _ e in rw (h.0, number-none ms n h.1)

-- so the number tells whether it is there
pub number-among : (ms : List Name) (n : Name) → number_of ms n < length ms → among n ms ≡ true
number-among ms n h = by-test (among n ms) (λ e. e) (λ e. let q = number-none ms n e in absurd (omega arith))

-- the identifier with that number is the one that was looked for
pub number_at : (ms : List Name) (n : Name) → among n ms ≡ true → get_or ms (number_of ms n) [] ≡ n
number_at [] n e = cc
number_at (m ∷ ms) n e =
    by-test (same m n) (λ y. rw y (same_true m n y)) (λ y. rw y (number_at ms n (rw y at e)))

-- an identifier put at the end gets the next number
pub number-added : (ms : List Name) (n : Name) → among n ms ≡ false → number_of (ms ++ (n ∷ [])) n ≡ length ms
number-added [] n e = rw (same_refl n)
number-added (m ∷ ms) n e = let h = or-none (same m n) _ e in rw (h.0, number-added ms n h.1)

-- and those before it keep theirs
pub number-kept : (ms ns : List Name) (n : Name) → among n ms ≡ true → number_of (ms ++ ns) n ≡ number_of ms n
number-kept [] ns n e = cc
number-kept (m ∷ ms) ns n e = by-test (same m n) (λ y. rw y) (λ y. rw (y, number-kept ms ns n (rw y at e)))

-- where there is room for k identifiers and there are m, a new one finds none exactly where its number is no place
pub number-full : (i m k : ℕ) → i ≤ m → m ≤ k → (leb m i && leb k m) ≡ leb k i
number-full i m k a b =
    by-test (leb k i)
    (λ y. let h : k ≤ i = leb-true _ _ y in rw (y, le-leb m i (omega arith), le-leb k m (omega arith)))
    (λ f. let h : i < k = leb-false _ _ f in
    by-test (leb m i)
    (λ z. let g : m ≤ i = leb-true _ _ z in rw (f, z, lt-leb k m (omega arith)))
    (λ z. rw (f, z)))

-- the identifiers from place i on
pub number_step : (ms : List Name) (n : Name) (i : ℕ) → i < length ms
    → number_of (drop i ms) n ≡ cond (same (get_or ms i []) n) zero (suc (number_of (drop (suc i) ms) n))
number_step ms n i h = rw (drop-cons ms i [] h)

-- Whether identifiers differ ----------------------------------------------------------------------------------------

-- one more identifier at the end
pub among-snoc : (ms : List Name) (m n : Name) → among n (ms ++ (m ∷ [])) ≡ (same m n || among n ms)
among-snoc ms m n = any_append (λ k. same k n) ms (m ∷ []) ∙ rw or-false (or_comm (among n ms) (same m n))

-- one more that is not among them
pub distinct_snoc : (ms : List Name) (n : Name) → distinct (ms ++ (n ∷ [])) ≡ (distinct ms && not (among n ms))
distinct_snoc [] n = refl
distinct_snoc (m ∷ ms) n =
    rw (among-snoc ms n m, same-swap n m, distinct_snoc ms n) (parts (same m n) (among m ms) (distinct ms) (among n ms))
  where
    parts : (s a d b : Bool) → (not (s || a) && (d && not b)) ≡ ((not a && d) && not (s || b))
    parts true true d b = refl
    parts true false true b = refl
    parts true false false b = refl
    parts false true d b = refl
    parts false false d b = refl

-- what differs as a whole differs in front
pub distinct-front : (ms ns : List Name) → distinct (ms ++ ns) ≡ true → distinct ms ≡ true
distinct-front [] ns e = refl
distinct-front (m ∷ ms) ns e =
    let f : among m (ms ++ ns) ≡ false = not-true _ (and_left (not (among m (ms ++ ns))) _ e) in
    let g : among m ms ≡ false = (or-none (among m ms) _ (sym (any_append (λ k. same k m) ms ns) ∙ f)).0 in
    rw g (distinct-front ms ns (and_right (not (among m (ms ++ ns))) _ e))

module _ (ms : List Name) (i : ℕ) (h : i < length ms) where
  -- the identifiers up to place i
  pub among-upto : (n : Name) → among n (take (suc i) ms) ≡ (same (get_or ms i []) n || among n (take i ms))
  among-upto n = rw (take-suc ms i [] h) (among-snoc (take i ms) (get_or ms i []) n)

  -- whether those up to place i differ
  pub distinct-upto : distinct (take (suc i) ms) ≡ (distinct (take i ms) && not (among (get_or ms i []) (take i ms)))
  distinct-upto = rw (take-suc ms i [] h) (distinct_snoc (take i ms) (get_or ms i []))

  -- place i repeats an earlier one
  pub distinct-stopped : among (get_or ms i []) (take i ms) ≡ true → distinct ms ≡ false
  distinct-stopped e =
      by-test
      (distinct ms)
      (λ d.
      let f : distinct (take (suc i) ms) ≡ true = distinct-front (take (suc i) ms) (drop (suc i) ms) (rw (take-append-drop (suc i) ms) d) in
      let g : not (among (get_or ms i []) (take i ms)) ≡ true = and_right (distinct (take i ms)) _ (sym distinct-upto ∙ f) in
      cc)
      (λ d. d)

  -- place i is new
  pub distinct-on : distinct (take i ms) ≡ true → among (get_or ms i []) (take i ms) ≡ false → distinct (take (suc i) ms) ≡ true
  distinct-on d e = distinct-upto ∙ rw (d, e)

-- identifiers that differ have the numbers of their places
pub number-place : (ms : List Name) (i : ℕ) → distinct ms ≡ true → i < length ms → number_of ms (get_or ms i []) ≡ i
number-place [] i d h = absurd (omega arith)
number-place (m ∷ ms) zero d h = rw (same_refl m)
number-place (m ∷ ms) (suc i) d h =
    let f : among m ms ≡ false = not-true _ (and_left (not (among m ms)) _ d) in
    let g : same m (get_or ms i []) ≡ false = same-swap m _ ∙ any_at (λ k. same k m) ms i [] f (omega arith) in
    rw (g, number-place ms i (and_right (not (among m ms)) _ d) (omega arith))
