-- A window's counts, read from what is stored, are the ledger's: the same identifiers by number, the same counts, in the same order.
use Rattle.lists.proofs.Prelude.{Bool, true, false, ◌||◌, not, cond, List, [], ◌∷◌, map, ◌≡◌, refl, sym, ap, ◌∙◌, fun_ext, ℕ, zero, suc, ◌+◌, ◌<◌, ◌≤◌, arith, eqb, ltb, leb, ℤ, pos, neg_ℤ, +ℤ_idl, +ℤ_idr, length, get_or, List·getD-eq-default, eqb-true, eqb-false, eq-eqb, ne_eqb, lt-ltb, ltb-true, ltb-false, le-leb, leb-true, keep, any, every, rising, up_to, by-test, and_both, and_left, and_right, every-from, map-up_to, and-false, any-map, keep-map, map-id, length-map}
use Rattle.postings.specs.declared.Posting.{Posting}
use Rattle.postings.specs.Order.{precedes, ordered}
use Rattle.postings.specs.Merge.{counting, is_zero, is_counted, nonzero, pairs, negated}
use Rattle.postings.specs.Sums.{sum, is_above}
use Rattle.postings.proofs.Order.{precedes-id}
use Rattle.postings.proofs.Sums.{is-zero}
use Rattle.postings.proofs.Merge.{pairs-ordered, nonzero-ordered, nonzero-counts, same-sums}
use Rattle.identifiers.specs.Names.{Name, among}
use Rattle.removals.specs.Removal.{of_window, counts_of, is_live}
use Rattle.accounts.specs.Ledger.{Ledger, live, count_by_number}
use Rattle.accounts.specs.Books.{negated_by, taken_back}
use Rattle.accounts.proofs.Parts.{sum-apart}
use Rattle.accounts.proofs.Stored.{sum-counts}
use Rattle.accounts.proofs.Numbers.{has_good_length, good-nonempty}
use Rattle.accounts.proofs.Lawful.{Lawful, counted_in}

-- for the numbers is, each count c that is not 0
abbrev pub held_by : (ℕ → ℤ) → ℕ → List ℕ → List Posting
held_by c w [] = []
held_by c w (i ∷ is) = cond (is_zero (c i)) (held_by c w is) (record { id = i; window = w; count = c i } ∷ held_by c w is)

module _ (c : ℕ → ℤ) (w : ℕ) where
  -- no count is 0
  held-counts : (is : List ℕ) → every is_counted (held_by c w is) ≡ true
  held-counts [] = refl
  held-counts (i ∷ is) = by-test (is_zero (c i)) (λ y. rw y (held-counts is)) (λ n. rw (n, n) (held-counts is))

  -- all are of the window
  held-window : (is : List ℕ) → every (λ p. eqb p.window w) (held_by c w is) ≡ true
  held-window [] = refl
  held-window (i ∷ is) =
      by-test (is_zero (c i)) (λ y. rw y (held-window is)) (λ n. rw (n, eq-eqb w w refl) (held-window is))

  -- all are of identifiers from n on
  held-from : (m n k : ℕ) → m ≤ n → every (λ p. leb m p.id) (held_by c w (rising n k)) ≡ true
  unfolding rising
  held-from m n zero h = refl
  held-from m n (suc k) h =
      by-test (is_zero (c n)) (λ y. rw y (held-from m (suc n) k (omega arith)))
      (λ z. rw (z, le-leb m n h) (held-from m (suc n) k (omega arith)))

  -- and below m
  held_below : (m n k : ℕ) → n + k ≤ m → every (λ p. ltb p.id m) (held_by c w (rising n k)) ≡ true
  unfolding rising
  held_below m n zero h = refl
  held_below m n (suc k) h =
      by-test (is_zero (c n)) (λ y. rw y (held_below m (suc n) k (omega arith)))
      (λ z. rw (z, lt-ltb n m (omega arith)) (held_below m (suc n) k (omega arith)))

  -- they are in order
  held-ordered : (n k : ℕ) → ordered (held_by c w (rising n k)) ≡ true
  unfolding rising
  held-ordered n zero = refl
  held-ordered n (suc k) =
      by-test (is_zero (c n)) (λ y. rw y (held-ordered (suc n) k))
      (λ z. rw z (and_both (every (precedes p) rest) _ (every-from later later (precedes p) (λ q a b. precedes-id p q (leb-true (suc n) q.id a)) rest after after) (held-ordered (suc n) k)))
    where
      p : Posting
      p = record { id = n; window = w; count = c n }

      rest : List Posting
      rest = held_by c w (rising (suc n) k)

      later : Posting → Bool
      later q = leb (suc n) q.id

      after : every later rest ≡ true
      after = held-from (suc n) (suc n) k (omega arith)

  -- ---- their sums

  pub held-other : (i v : ℕ) (is : List ℕ) → (w ≡ v → ⊥) → sum (held_by c w is) i v ≡ pos 0
  held-other i v is d =
      sum-apart i v (λ p. eqb p.window w) (λ p y. rw (eqb-true p.window w y, ne_eqb w v d) (and-false (eqb p.id i))) (held_by c w is) (held-window is)

  held-above : (i v n k : ℕ) → i < n → sum (held_by c w (rising n k)) i v ≡ pos 0
  held-above i v n k h =
      sum-apart i v (λ p. leb n p.id) (λ p y. rw (ne_eqb p.id i (λ q. omega (arith, leb-true n p.id y)))) (held_by c w (rising n k)) (held-from n n k (omega arith))

  held-under : (i v n k : ℕ) → n + k ≤ i → sum (held_by c w (rising n k)) i v ≡ pos 0
  held-under i v n k h =
      sum-apart i v (λ p. ltb p.id i) (λ p y. rw (ne_eqb p.id i (λ q. omega (arith, ltb-true p.id i y)))) (held_by c w (rising n k)) (held_below i n k h)

  held-own : (i n k : ℕ) → n ≤ i → i < n + k → sum (held_by c w (rising n k)) i w ≡ c i
  unfolding rising
  held-own i n zero h j = absurd (omega arith)
  held-own i n (suc k) h j =
      by-test (eqb n i)
      (λ y. let q = eqb-true n i y in
      let rest : sum (held_by c w (rising (suc n) k)) i w ≡ pos 0 = held-above i w (suc n) k (omega arith) in
      by-test (is_zero (c n))
      (λ z. rw z (rest ∙ sym (is-zero (c n) z) ∙ ap c q))
      (λ z. rw (z, y, eq-eqb w w refl, rest) (+ℤ_idr (c n) ∙ ap c q)))
      (λ d. let apart = eqb-false n i d in
      let rest = held-own i (suc n) k (omega arith) (omega arith) in
      by-test (is_zero (c n)) (λ z. rw z rest) (λ z. rw (z, d) (+ℤ_idl _ ∙ rest)))

  -- ---- what is done with them

  -- negated
  pub held-negated : (is : List ℕ) → negated (held_by c w is) ≡ negated_by c w is
  unfolding negated nonzero
  held-negated [] = refl
  held-negated (i ∷ is) =
      by-test (is_zero (c i)) (λ y. rw y (held-negated is)) (λ n. rw (n, n) (ap (λ (l : List Posting). record { id = i; window = w; count = neg_ℤ (c i) } ∷ l) (held-negated is)))

  -- is one above 0
  pub held-live : (is : List ℕ) → is_live (held_by c w is) ≡ any (λ i. is_above (c i)) is
  held-live [] = refl
  held-live (i ∷ is) =
      by-test (is_zero (c i))
      (λ y. rw (y, is-zero (c i) y) (held-live is))
      (λ n. rw n (ap (λ t. is_above (c i) || t) (held-live is)))

  -- how many
  pub held-length : (is : List ℕ) → length (held_by c w is) ≡ length (keep (λ i. not (is_zero (c i))) is)
  held-length [] = refl
  held-length (i ∷ is) = by-test (is_zero (c i)) (λ y. rw y (held-length is)) (λ n. rw n (ap suc (held-length is)))

-- ---- a window's counts

-- read from postings in which only the first n numbers have sums in the window
pub counts-held : (w : ℕ) (l : List Posting) (n : ℕ) → ((i : ℕ) → n ≤ i → sum l i w ≡ pos 0) → counts_of w l ≡ held_by (λ i. sum l i w) w (up_to n)
counts-held w l n none =
    same-sums (counts_of w l) (held_by c w (up_to n)) in_order (held-ordered c w 0 n) no_zero (held-counts c w (up_to n))
    (λ i v. sum-counts w l i v ∙ by-test (eqb w v)
    (λ y. let q = eqb-true w v y in rw (y, ← q) (sym (own i)))
    (λ d. rw d (sym (held-other c w i v (up_to n) (eqb-false w v d)))))
  where
    c : ℕ → ℤ
    c i = sum l i w

    in_order : ordered (counts_of w l) ≡ true
    in_order = unfold counts_of in nonzero-ordered (pairs (of_window w l)) (pairs-ordered (of_window w l))

    no_zero : every is_counted (counts_of w l) ≡ true
    no_zero = unfold counts_of in nonzero-counts (pairs (of_window w l))

    own : (i : ℕ) → sum (held_by c w (up_to n)) i w ≡ c i
    own i =
        by-test (ltb i n)
        (λ y. held-own c w i 0 n (omega arith) (omega (arith, ltb-true i n y)))
        (λ z. held-under c w i w 0 n (omega (arith, ltb-false i n z)) ∙ sym (none i (ltb-false i n z)))

-- ---- by number and by name

-- all names, by their numbers
by_number : (ms : List Name) → map (λ i. get_or ms i []) (up_to (length ms)) ≡ ms
by_number ms = map-up_to (λ i. get_or ms i []) (λ m. m) ms [] (length ms) refl (λ j h. refl) ∙ map-id ms

-- a test over all numbers is a test over all names
pub any-by-number : (t : Name → Bool) (ms : List Name) → any (λ i. t (get_or ms i [])) (up_to (length ms)) ≡ any t ms
any-by-number t ms = sym (any-map t (λ i. get_or ms i []) (up_to (length ms))) ∙ ap (any t) (by_number ms)

pub keep-by-number : (t : Name → Bool) (ms : List Name) → length (keep (λ i. t (get_or ms i [])) (up_to (length ms))) ≡ length (keep t ms)
keep-by-number t ms =
    sym (length-map (keep (λ i. t (get_or ms i [])) (up_to (length ms))) (λ i. get_or ms i []))
    ∙ ap length (sym (keep-map t (λ i. get_or ms i []) (up_to (length ms))) ∙ ap (keep t) (by_number ms))

some_is : (m : ℕ) → not (is_zero (pos m)) ≡ ltb 0 m
some_is zero = refl
some_is (suc m) = sym (lt-ltb 0 (suc m) (omega arith))

-- no identifier is empty
pub nameless : (ms : List Name) → every has_good_length ms ≡ true → among [] ms ≡ false
nameless [] g = refl
nameless ([] ∷ ms) g = absurd (good-nonempty [] (and_left (has_good_length []) _ g) refl)
nameless ((x ∷ m) ∷ ms) g = nameless ms (and_right (has_good_length (x ∷ m)) _ g)

-- numbers that no identifier has count nothing
pub unnumbered : (entries : ℕ) (l : Ledger) → Lawful entries l → (i w : ℕ) → length l.identifiers ≤ i → count_by_number l i w ≡ 0
unnumbered entries l s i w h = ap (λ n. l.count n w) (List·getD-eq-default l.identifiers [] h) ∙ s.uncounted [] w (nameless l.identifiers s.good)

-- of postings that have the ledger's sums in the window
module _ (entries : ℕ) (l : Ledger) (s : Lawful entries l) (m : List Posting) (w : ℕ) (sums : (i : ℕ) → sum m i w ≡ pos (count_by_number l i w)) where
  -- the counts read are those that the ledger has
  counts-ledger : counts_of w m ≡ held_by (λ i. pos (count_by_number l i w)) w (up_to (length l.identifiers))
  counts-ledger =
      counts-held w m (length l.identifiers) (λ i h. sums i ∙ ap pos (unnumbered entries l s i w h))
      ∙ ap (λ (c : ℕ → ℤ). held_by c w (up_to (length l.identifiers))) (fun_ext sums)

  -- what a removal takes back
  pub counts-back : negated (counts_of w m) ≡ taken_back l w
  unfolding taken_back
  counts-back = ap negated counts-ledger ∙ held-negated (λ i. pos (count_by_number l i w)) w (up_to (length l.identifiers))

  -- whether the window is live
  pub counts-live : is_live (counts_of w m) ≡ live l w
  unfolding live
  counts-live = ap is_live counts-ledger ∙ held-live (λ i. pos (count_by_number l i w)) w (up_to (length l.identifiers)) ∙ any-by-number (λ n. ltb 0 (l.count n w)) l.identifiers

  -- and how many identifiers it has
  pub counts-length : length (counts_of w m) ≡ counted_in l w
  unfolding counted_in
  counts-length =
      ap length counts-ledger ∙ held-length (λ i. pos (count_by_number l i w)) w (up_to (length l.identifiers))
      ∙ ap (λ (t : ℕ → Bool). length (keep t (up_to (length l.identifiers)))) (fun_ext λ i. some_is (count_by_number l i w))
      ∙ keep-by-number (λ n. ltb 0 (l.count n w)) l.identifiers

  -- as many postings are taken back as there are counts
  pub length_back : length (taken_back l w) ≡ length (counts_of w m)
  length_back = sym (ap length counts-back) ∙ lengths (counts_of w m) (unfold counts_of in nonzero-counts (pairs (of_window w m)))
    where
      lengths : (cs : List Posting) → every is_counted cs ≡ true → length (negated cs) ≡ length cs
      lengths cs e = unfold negated nonzero in go cs e
        where
          go : (cs : List Posting) → every is_counted cs ≡ true → length (map (λ p. counting p (neg_ℤ p.count)) (keep is_counted cs)) ≡ length cs
          go [] e = refl
          go (p ∷ cs) e = rw (and_left (is_counted p) _ e) (ap suc (go cs (and_right (is_counted p) _ e)))
