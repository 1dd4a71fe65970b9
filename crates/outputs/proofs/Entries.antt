-- Entries from the numbers of postings are the entries of the partition's layout.
use Rattle.lists.proofs.Prelude.{subst, true, false, not, true≢false, List, [], ◌∷◌, map, ◌≡◌, refl, sym, ap, ◌∙◌, ℕ, zero, suc, ◌+◌, ◌*◌, ◌<◌, arith, eqb, ltb, leb, length, eqb-true, eqb-false, ne_eqb, ltb-true, ltb-false, lt-ltb, le-ltb, leb-true, le-leb, keep, every, elem, joined, rising, up_to, by-test, and_left, and_right, and_both, or_right, every-from, keep_same, every-elem, elem-keep, length-joined}
use Rattle.postings.specs.declared.Posting.{Posting}
use Rattle.postings.specs.Order.{ordered}
use Rattle.postings.specs.Sums.{under}
use Rattle.partitions.specs.Layout.{identifiers_of, term_count, entry_of}
use Rattle.partitions.specs.Formed.{ascending}
use Rattle.partitions.proofs.Groups.{lower, every-identifier, identifiers-ascending, groups-some}
use Rattle.outputs.specs.Entries.{entries_onward}

-- Rising lists -------------------------------------------------------------------------------------------------------

-- no number below all of a rising list is in it
not-below : (n : ℕ) (l : List ℕ) → every (ltb n) l ≡ true → elem n l ≡ false
not-below n [] e = refl
not-below n (m ∷ l) e =
    let h = ltb-true n m (and_left (ltb n m) _ e) in
    rw (ne_eqb m n (λ q. omega arith)) (not-below n l (and_right (ltb n m) _ e))

later-keep : (n : ℕ) (l : List ℕ) (i k : ℕ) → n < i → keep (λ j. elem j (n ∷ l)) (rising i k) ≡ keep (λ j. elem j l) (rising i k)
unfolding rising
later-keep n l i zero h = refl
later-keep n l i (suc k) h = rw (ne_eqb n i (λ q. omega arith), later-keep n l (suc i) k (omega arith))

-- the numbers from i on that are in a rising list from i on are that list
pub rising-kept : (l : List ℕ) (i k : ℕ) → ascending l ≡ true → every (λ j. leb i j) l ≡ true → every (λ j. ltb j (i + k)) l ≡ true
    → keep (λ j. elem j l) (rising i k) ≡ l
unfolding rising
rising-kept [] i zero a f t = refl
rising-kept (n ∷ l) i zero a f t =
    let p = leb-true i n (and_left (leb i n) _ f) in
    let q = ltb-true n (i + 0) (and_left (ltb n (i + 0)) _ t) in
    absurd (omega arith)
rising-kept [] i (suc k) a f t = rising-kept [] (suc i) k refl refl refl
rising-kept (n ∷ l) i (suc k) a f t =
    let e : i + suc k ≡ suc i + k = omega arith in
    let above = and_left (every (ltb n) l) _ a in
    let p = leb-true i n (and_left (leb i n) _ f) in
    by-test (eqb n i)
    (λ y. let z = eqb-true n i y in
    let low : every (λ j. leb (suc i) j) l ≡ true = every-from (ltb n) (ltb n) (λ j. leb (suc i) j) (λ j u v. le-leb (suc i) j (omega (arith, ltb-true n j u))) l above above in
    rw y (ap (λ (r : List ℕ). i ∷ r) (later-keep n l (suc i) k (omega arith) ∙ rising-kept l (suc i) k (and_right (every (ltb n) l) _ a) low (subst (λ (m : ℕ). every (λ j. ltb j m) l ≡ true) e (and_right (ltb n (i + suc k)) _ t))) ∙ rw z))
    (λ g. let z = eqb-false n i g in
    let low : every (λ j. leb (suc i) j) (n ∷ l) ≡ true =
    and_both (leb (suc i) n) _ (le-leb (suc i) n (omega (arith, z)))
    (every-from (ltb n) (ltb n) (λ j. leb (suc i) j) (λ j u v. le-leb (suc i) j (omega (arith, ltb-true n j u))) l above above) in
    let m : elem i l ≡ false = not-below i l (every-from (ltb n) (ltb n) (ltb i) (λ j u v. lt-ltb i j (omega (arith, ltb-true n j u))) l above above) in
    rw (g, m) (rising-kept (n ∷ l) (suc i) k a low (subst (λ (m : ℕ). every (λ j. ltb j m) (n ∷ l) ≡ true) e t)))

-- The identifiers of postings -------------------------------------------------------------------------------------------

-- an identifier is one of theirs where it has a posting
pub elem-identifiers : (r : List Posting) (i : ℕ) → elem i (identifiers_of r) ≡ not (eqb (length (under i r)) 0)
elem-identifiers r i =
    by-test (elem i (identifiers_of r))
    (λ y. let s = leb-true 1 (length (under i r)) (every-elem (λ j. leb 1 (length (under j r))) (identifiers_of r) i (groups-some r) y) in
    rw (y, ne_eqb (length (under i r)) 0 (λ q. omega arith)))
    (λ f. by-test (eqb (length (under i r)) 0)
    (λ z. rw (f, z))
    (λ z. absurd (true≢false (sym (there r i (eqb-false (length (under i r)) 0 z)) ∙ f))))
  where
    there : (r : List Posting) (i : ℕ) → (length (under i r) ≡ 0 → ⊥) → elem i (identifiers_of r) ≡ true
    there [] i h = absurd (h refl)
    there (p ∷ r) i h =
        by-test (eqb p.id i)
        (λ y. rw y)
        (λ f. or_right (eqb p.id i) _
        (elem-keep (λ j. not (eqb j p.id)) (identifiers_of r) i (rw (ne_eqb i p.id (λ q. eqb-false p.id i f (sym q)))) (there r i (rw f at h))))

-- Entries --------------------------------------------------------------------------------------------------------------

-- postings of identifiers up to i
lower-more : (r : List Posting) (i : ℕ) → length (lower (suc i) r) ≡ length (lower i r) + length (under i r)
lower-more [] i = refl
lower-more (p ∷ r) i =
    by-test (ltb p.id i)
    (λ y. let h = ltb-true p.id i y in
    rw (y, lt-ltb p.id (suc i) (omega arith), ne_eqb p.id i (λ q. omega arith)) (omega (arith, lower-more r i)))
    (λ f. let h = ltb-false p.id i f in
    by-test (eqb p.id i)
    (λ y. let z = eqb-true p.id i y in
    rw (f, y, lt-ltb p.id (suc i) (omega arith)) (omega (arith, lower-more r i)))
    (λ n. let z = eqb-false p.id i n in
    rw (f, n, le-ltb p.id (suc i) (omega (arith, z))) (lower-more r i)))

lower-none : (r : List Posting) → length (lower 0 r) ≡ 0
lower-none [] = refl
lower-none (p ∷ r) = rw (le-ltb p.id 0 (omega arith)) (lower-none r)

module _ (r : List Posting) where
  entries_from : (i k : ℕ) → entries_onward i (length (lower i r)) (map (λ j. length (under j r)) (rising i k))
      ≡ joined (map (entry_of r) (keep (λ j. not (eqb (length (under j r)) 0)) (rising i k)))
  unfolding entries_onward rising
  entries_from i zero = refl
  entries_from i (suc k) =
      let m = lower-more r i in
      by-test (eqb (length (under i r)) 0)
      (λ y. let z = eqb-true (length (under i r)) 0 y in
      let e : length (lower i r) ≡ length (lower (suc i) r) = omega arith in
      rw (y, e) (entries_from (suc i) k))
      (λ f. rw (f, ← m) (ap (λ (l : List ℕ). i ∷ length (under i r) ∷ length (lower i r) ∷ l) (entries_from (suc i) k)))

  module _ (o : ordered r ≡ true) (small : every (λ p. leb p.id 1023) r ≡ true) where
    identifiers-kept : keep (λ j. not (eqb (length (under j r)) 0)) (up_to 1024) ≡ identifiers_of r
    identifiers-kept =
        let s = every-identifier (λ i. leb i 1023) r small in
        keep_same (λ j. not (eqb (length (under j r)) 0)) (λ j. elem j (identifiers_of r)) (λ j. sym (elem-identifiers r j)) (up_to 1024)
        ∙ rising-kept (identifiers_of r) 0 1024 (identifiers-ascending r o)
        (every-from (λ i. leb i 1023) (λ i. leb i 1023) (λ j. leb 0 j) (λ j u v. le-leb 0 j (omega arith)) (identifiers_of r) s s)
        (every-from (λ i. leb i 1023) (λ i. leb i 1023) (λ j. ltb j 1024) (λ j u v. lt-ltb j 1024 (omega (arith, leb-true j 1023 u))) (identifiers_of r) s s)

    -- the entries of ordered postings
    pub entries_by : (counts : List ℕ) → counts ≡ map (λ i. length (under i r)) (up_to 1024)
        → entries_onward 0 0 counts ≡ joined (map (entry_of r) (identifiers_of r))
    entries_by counts e =
        let z : 0 ≡ length (lower 0 r) = sym (lower-none r) in
        ap (entries_onward 0 0) e ∙ ap (λ (s : ℕ). entries_onward 0 s (map (λ i. length (under i r)) (up_to 1024))) z ∙ entries_from 0 1024
        ∙ ap (λ (l : List ℕ). joined (map (entry_of r) l)) identifiers-kept

    -- three words to each
    pub entries-length : (counts : List ℕ) → counts ≡ map (λ i. length (under i r)) (up_to 1024) → length (entries_onward 0 0 counts) ≡ 3 * term_count r
    entries-length counts e = ap length (entries_by counts e) ∙ length-joined (entry_of r) 3 (λ x. refl) (identifiers_of r)
