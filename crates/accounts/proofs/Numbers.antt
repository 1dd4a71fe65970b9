-- Identifiers by name and by number: one identifier more changes no number, and numbers differ where names do.
use Rattle.lists.proofs.Prelude.{Bool, true, false, ◌||◌, not, cond, or-false, or_comm, true≢false, List, [], ◌∷◌, ◌++◌, map, ◌≡◌, refl, sym, ap, ap₂, ◌∙◌, ℕ, zero, suc, ◌≤◌, arith, eqb, ltb, leb, length, get_or, length-append, List·getD-eq-default, eqb-true, eqb-false, eq-eqb, ne_eqb, ltb-true, ltb-false, lt-ltb, le-ltb, le-leb, lt-leb, every, elem, different, same, by-test, and_left, and_right, and_both, or_right, same_refl, same_true, every_append, map-append}
use Rattle.identifiers.specs.Names.{Name, bad_length, among, distinct, number_of}
use Rattle.identifiers.proofs.Names.{number-there, number-none, number-among, number_at, number-added, number-kept, number-place, among-snoc, distinct_snoc}
use Rattle.accounts.specs.Ledger.{including}

-- an identifier that is not empty and not too long
abbrev pub has_good_length : Name → Bool
has_good_length n = not (bad_length n)

pub good-nonempty : (n : Name) → has_good_length n ≡ true → n ≡ [] → ⊥
unfolding bad_length
good-nonempty [] g e = true≢false (sym g)
good-nonempty (x ∷ n) g e = let z : ◌≡◌ {A = ℕ} 0 1 = cc in omega arith

-- ---- one identifier more

-- which are among them
pub among-including : (ms : List Name) (n m : Name) → among m (including ms n) ≡ (among m ms || same n m)
among-including ms n m =
    by-test (among n ms)
    (λ y. rw y (by-test (same n m) (λ s. rw (s, ← same_true n m s, y)) (λ d. rw (d, or-false (among m ms)))))
    (λ z. rw z (among-snoc ms n m ∙ or_comm (same n m) (among m ms)))

pub among-itself : (ms : List Name) (n : Name) → among n (including ms n) ≡ true
among-itself ms n = among-including ms n n ∙ or_right (among n ms) _ (same_refl n)

pub among-grows : (ms : List Name) (n m : Name) → among m ms ≡ true → among m (including ms n) ≡ true
among-grows ms n m e = among-including ms n m ∙ rw e

-- they differ
pub distinct-including : (ms : List Name) (n : Name) → distinct ms ≡ true → distinct (including ms n) ≡ true
distinct-including ms n d =
    by-test (among n ms) (λ y. rw y d) (λ z. rw z (distinct_snoc ms n ∙ rw (d, z)))

-- what holds of each and of the new one
pub every-including : (t : Name → Bool) (ms : List Name) (n : Name) → every t ms ≡ true → t n ≡ true → every t (including ms n) ≡ true
every-including t ms n e f =
    by-test (among n ms) (λ y. rw y e) (λ z. rw z (every_append t ms (n ∷ []) ∙ rw (e, f)))

-- the new one has the number that it was to get
pub number-including : (ms : List Name) (n : Name) → number_of (including ms n) n ≡ number_of ms n
number-including ms n =
    by-test (among n ms) (λ y. rw y) (λ z. rw z (number-added ms n z ∙ sym (number-none ms n z)))

-- and the others keep theirs
pub number-still : (ms : List Name) (n m : Name) → among m ms ≡ true → number_of (including ms n) m ≡ number_of ms m
number-still ms n m e = by-test (among n ms) (λ y. rw y) (λ z. rw z (number-kept ms (n ∷ []) m e))

-- how many there are
pub length-including : (ms : List Name) (n : Name) → length (including ms n) ≡ cond (among n ms) (length ms) (suc (length ms))
length-including ms n = by-test (among n ms) (λ y. rw y) (λ z. rw z (length-append ms (n ∷ []) ∙ omega arith))

-- ---- the register's test for a new identifier

pub new_is : (ms : List Name) (n : Name) → leb (length ms) (number_of ms n) ≡ not (among n ms)
new_is ms n =
    by-test (among n ms)
    (λ y. rw y (lt-leb (length ms) (number_of ms n) (number-there ms n y)))
    (λ z. rw z (le-leb (length ms) (number_of ms n) (omega (arith, number-none ms n z))))

-- and the register afterwards
pub noted-is : (ms : List Name) (n : Name) → cond (leb (length ms) (number_of ms n)) (ms ++ (n ∷ [])) ms ≡ including ms n
noted-is ms n = by-test (among n ms) (λ y. rw (new_is ms n, y)) (λ z. rw (new_is ms n, z))

pub known_is : (ms : List Name) (n : Name) → ltb (number_of ms n) (length ms) ≡ among n ms
known_is ms n =
    by-test (among n ms)
    (λ y. rw y (lt-ltb (number_of ms n) (length ms) (number-there ms n y)))
    (λ z. rw z (le-ltb (number_of ms n) (length ms) (omega (arith, number-none ms n z))))

-- ---- names and numbers differ together

pub number_same : (ms : List Name) (m n : Name) → among m ms ≡ true → eqb (number_of ms m) (number_of ms n) ≡ same m n
number_same ms m n e =
    by-test (same m n)
    (λ s. rw (s, same_true m n s) (eq-eqb (number_of ms n) (number_of ms n) refl))
    (λ d. rw d (ne_eqb (number_of ms m) (number_of ms n) (λ q. true≢false (sym (rw (m-is q) (same_refl n)) ∙ d))))
  where
    m-is : number_of ms m ≡ number_of ms n → m ≡ n
    m-is q =
        let there : among n ms ≡ true = number-among ms n (omega (arith, number-there ms m e)) in
        sym (number_at ms m e) ∙ ap (λ i. get_or ms i []) q ∙ number_at ms n there

-- an identifier stands at its number's place and nowhere else
pub nth-same : (ms : List Name) (n : Name) (i : ℕ) → distinct ms ≡ true → (n ≡ [] → ⊥) → among n ms ≡ true → same n (get_or ms i []) ≡ eqb (number_of ms n) i
nth-same ms n i d some e =
    by-test (eqb (number_of ms n) i)
    (λ y. rw (y, ← eqb-true (number_of ms n) i y, number_at ms n e) (same_refl n))
    (λ z. rw z (by-test (same n (get_or ms i [])) (λ s. absurd (apart (eqb-false (number_of ms n) i z) (same_true n (get_or ms i []) s))) (λ t. t)))
  where
    apart : (number_of ms n ≡ i → ⊥) → n ≡ get_or ms i [] → ⊥
    apart other q =
        by-test (ltb i (length ms))
        (λ y. other (ap (number_of ms) q ∙ number-place ms i d (ltb-true i (length ms) y)))
        (λ z. some (q ∙ List·getD-eq-default ms [] (ltb-false i (length ms) z)))

-- what is the same at a new identifier and at none is the same at every place
pub nth-including : (ms : List Name) (n : Name) (i : ℕ) (c : Name → ℕ) → (among n ms ≡ false → c n ≡ c []) → c (get_or (including ms n) i []) ≡ c (get_or ms i [])
nth-including ms n i c h = by-test (among n ms) (λ y. rw y) (λ z. rw z (at ms i (h z)))
  where
    at : (ms : List Name) (i : ℕ) → c n ≡ c [] → c (get_or (ms ++ (n ∷ [])) i []) ≡ c (get_or ms i [])
    at [] zero e = e
    at [] (suc i) e = refl
    at (m ∷ ms) zero e = refl
    at (m ∷ ms) (suc i) e = at ms i e

-- ---- a list of identifiers as numbers

-- all of some identifiers are among others
abbrev pub Within : List Name → List Name → Type 0
Within ns ms = (m : Name) → among m ns ≡ true → among m ms ≡ true

within_first : (ms ns : List Name) (n : Name) → Within (n ∷ ns) ms → among n ms ≡ true
within_first ms ns n h = h n (rw (same_refl n))

within-rest : (ms ns : List Name) (n : Name) → Within (n ∷ ns) ms → Within ns ms
within-rest ms ns n h m e = h m (or_right (same n m) _ e)

pub elem-numbers : (ms ns : List Name) (n : Name) → Within ns ms → elem (number_of ms n) (map (number_of ms) ns) ≡ among n ns
elem-numbers ms [] n h = refl
elem-numbers ms (m ∷ ns) n h = ap₂ ◌||◌ (number_same ms m n (within_first ms ns m h)) (elem-numbers ms ns n (within-rest ms ns m h))

pub map-numbers : (ms ns : List Name) (n : Name) → Within ns ms → map (number_of (including ms n)) ns ≡ map (number_of ms) ns
map-numbers ms [] n h = refl
map-numbers ms (m ∷ ns) n h = ap₂ ◌∷◌ (number-still ms n m (within_first ms ns m h)) (map-numbers ms ns n (within-rest ms ns m h))

-- one identifier more, among all and in the list
pub numbers-including : (ms ns : List Name) (n : Name) → Within ns ms
    → cond (elem (number_of ms n) (map (number_of ms) ns)) (map (number_of ms) ns) (map (number_of ms) ns ++ (number_of ms n ∷ [])) ≡ map (number_of (including ms n)) (including ns n)
numbers-including ms ns n h =
    by-test (among n ns)
    (λ y. rw (elem-numbers ms ns n h, y) (sym (map-numbers ms ns n h)))
    (λ z. rw (elem-numbers ms ns n h, z)
    (ap₂ (λ (xs : List ℕ) (y : ℕ). xs ++ (y ∷ [])) (sym (map-numbers ms ns n h)) (sym (number-including ms n)) ∙ sym (map-append (number_of (including ms n)) ns (n ∷ []))))

-- numbers that differ, each below how many there are
pub numbers-different : (ms ns : List Name) → Within ns ms → distinct ns ≡ true → different (map (number_of ms) ns) ≡ true
numbers-different ms [] h d = refl
numbers-different ms (n ∷ ns) h d =
    and_both (not (elem (number_of ms n) (map (number_of ms) ns))) _ (rw (elem-numbers ms ns n (within-rest ms ns n h)) (and_left (not (among n ns)) _ d))
    (numbers-different ms ns (within-rest ms ns n h) (and_right (not (among n ns)) _ d))

pub numbers-small : (ms ns : List Name) (k : ℕ) → length ms ≤ suc k → Within ns ms → every (λ i. leb i k) (map (number_of ms) ns) ≡ true
numbers-small ms [] k b h = refl
numbers-small ms (n ∷ ns) k b h =
    and_both (leb (number_of ms n) k) _ (le-leb (number_of ms n) k (omega (arith, number-there ms n (within_first ms ns n h)))) (numbers-small ms ns k b (within-rest ms ns n h))
