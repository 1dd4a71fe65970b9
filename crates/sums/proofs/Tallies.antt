-- What the walk tells of one window is what a removal reads: its lists, its sums and its counts.
use Rattle.lists.proofs.Prelude.{Bool, true, false, cond, ◌&&◌, ◌||◌, not, and-true, List, [], ◌∷◌, ◌++◌, map, ◌≡◌, refl, sym, ap, ap₂, ◌∙◌, ℕ, zero, suc, ◌<◌, ◌≤◌, arith, eqb, ltb, leb, ℤ, pos, nat_abs, ◌+ℤ◌, +ℤ_idl, +ℤ_idr, leb-true, le-leb, eqb-true, eqb-false, eq-eqb, ltb-true, ltb-false, lt-ltb, le-ltb, every, joined, by-test, and_left, and_right, and_both, every-from, every-mem, every-keep, every-kept, every_append, every-member}
use Rattle.keyed.specs.Keys.{sum_of, sums, over_keys}
use Rattle.keyed.specs.Groups.{Group, all_fall_all}
use Rattle.postings.specs.declared.Posting.{Posting}
use Rattle.postings.specs.Order.{precedes, ordered}
use Rattle.postings.specs.Merge.{is_zero, is_counted, pairs}
use Rattle.postings.specs.Sums.{share, sum}
use Rattle.postings.proofs.Sums.{is-zero, sum-append, sum-pairs}
use Rattle.postings.proofs.Merge.{every-puts, pairs-ordered, ordered-sum, same-sums}
use Rattle.partitions.specs.Formed.{in_range, sums_in_range, list_rule}
use Rattle.kway.specs.Ranges.{total_z, in_ranges}
use Rattle.scans.specs.Keys.{key_of, key_id, key_window, item_of, is_keyed}
use Rattle.scans.proofs.Keys.{key-whole, key-of-id, key-of-window, key_below, key-precedes, falls-rule, lists-rule, sum-keyed, sums-keyed}
use Rattle.sums.proofs.Tally.{faulty, total_at, checked, gathered, window_checked, window_gathered, tally_if, tally_of}
use Rattle.sums.specs.Tally.{of_window, counts_of}
use Rattle.sums.proofs.Windowed.{window-sum, window-fits, counts-ordered, counts_some, counts-own, counts-other, counts-pass}

-- ---- a test at every key

module _ (w : ℕ) (S : ℕ → List ℤ) where
  abbrev test : ℕ → Bool
  test k = not (eqb (key_window k) w) || in_ranges (S k)

  -- passed where it is passed at each
  all-checked : (m : ℕ) → ((k : ℕ) → k < m → test k ≡ true) → over_keys (checked w) true m S ≡ true
  unfolding over_keys
  all-checked zero h = refl
  all-checked (suc m) h = and_both (test m) _ (h m (omega arith)) (all-checked m (λ k l. h k (omega arith)))

  -- and passed at each
  each-checked : (m : ℕ) → over_keys (checked w) true m S ≡ true → (k : ℕ) → k < m → test k ≡ true
  unfolding over_keys
  each-checked zero e k h = absurd (omega arith)
  each-checked (suc m) e k h =
      by-test (eqb k m)
      (λ y. rw (eqb-true k m y) (and_left (test m) _ e))
      (λ n. let z = eqb-false k m n in each-checked m (and_right (test m) _ e) k (omega arith))

-- ---- the totals gathered by falling key

module _ (w : ℕ) (S : ℕ → List ℤ) where
  abbrev gather : ℕ → List Posting
  gather m = over_keys (gathered w) [] m S

  -- a total is gathered at this key
  abbrev found : ℕ → Bool
  found k = eqb (key_window k) w && not (is_zero (total_z (S k)))

  -- a posting with a key below m
  abbrev under : ℕ → Posting → Bool
  under m p = is_keyed p && ltb (key_of p.id p.window) m

  gather-more : (m : ℕ) → found m ≡ true → gather (suc m) ≡ total_at m (total_z (S m)) ∷ gather m
  unfolding over_keys
  gather-more m e = rw e

  gather_none : (m : ℕ) → found m ≡ false → gather (suc m) ≡ gather m
  unfolding over_keys
  gather_none m e = rw e

  total-keyed : (k : ℕ) (z : ℤ) → is_keyed (total_at k z) ≡ true
  total-keyed k z = and_both (leb (key_id k) 1023) _ (le-leb (key_id k) 1023 (omega arith)) (le-leb (key_window k) 65535 (omega arith))

  gather-under : (m : ℕ) → m ≤ 67108864 → every (under m) (gather m) ≡ true
  unfolding over_keys
  gather-under zero h = refl
  gather-under (suc m) h =
      let r = every-from (under m) (under m) (under (suc m))
      (λ p e f. and_both (is_keyed p) _ (and_left (is_keyed p) _ e)
      (lt-ltb (key_of p.id p.window) (suc m) (omega (arith, ltb-true (key_of p.id p.window) m (and_right (is_keyed p) _ e)))))
      (gather m) (gather-under m (omega arith)) (gather-under m (omega arith)) in
      by-test (found m)
      (λ y. ap (every (under (suc m))) (gather-more m y)
      ∙ and_both (under (suc m) (total_at m (total_z (S m)))) _
      (and_both (is_keyed (total_at m (total_z (S m)))) _ (total-keyed m (total_z (S m))) (lt-ltb (key_of (key_id m) (key_window m)) (suc m) (omega (arith, key-whole m (omega arith))))) r)
      (λ n. ap (every (under (suc m))) (gather_none m n) ∙ r)

  gather-ordered : (m : ℕ) → m ≤ 67108864 → ordered (gather m) ≡ true
  unfolding over_keys
  gather-ordered zero h = refl
  gather-ordered (suc m) h =
      let p = total_at m (total_z (S m)) in
      by-test (found m)
      (λ y. ap ordered (gather-more m y)
      ∙ and_both (every (precedes p) (gather m)) _
      (every-from (under m) (under m) (precedes p)
      (λ q e f. sym (key-precedes p q (total-keyed m (total_z (S m))) (and_left (is_keyed q) _ e)) ∙ rw (key-whole m (omega arith)) (and_right (is_keyed q) _ e))
      (gather m) (gather-under m (omega arith)) (gather-under m (omega arith)))
      (gather-ordered m (omega arith)))
      (λ n. ap ordered (gather_none m n) ∙ gather-ordered m (omega arith))

  gather-counts : (m : ℕ) → every is_counted (gather m) ≡ true
  unfolding over_keys
  gather-counts zero = refl
  gather-counts (suc m) =
      by-test (found m)
      (λ y. ap (every is_counted) (gather-more m y) ∙ and_both (is_counted (total_at m (total_z (S m)))) _ (and_right (eqb (key_window m) w) _ y) (gather-counts m))
      (λ n. ap (every is_counted) (gather_none m n) ∙ gather-counts m)

  -- the sum of a pair is the total under its key, where that is below m and of the window
  module _ (i v : ℕ) (a : i ≤ 1023) (b : v ≤ 65535) where
    abbrev key : ℕ
    key = key_of i v

    abbrev value : ℕ → ℤ
    value m = cond (eqb v w && ltb key m) (total_z (S key)) (pos 0)

    -- at its own key
    own : found key ≡ true → share (total_at key (total_z (S key))) i v ≡ total_z (S key)
    own e = rw (eq-eqb (key_id key) i (key-of-id i v b a), eq-eqb (key_window key) v (key-of-window i v b))

    -- at another
    other : (m : ℕ) → m < 67108864 → (key ≡ m → ⊥) → (z : ℤ) → share (total_at m z) i v ≡ pos 0
    other m h n z =
        by-test (eqb (key_id m) i && eqb (key_window m) v)
        (λ y. absurd (n (ap₂ key_of (sym (eqb-true _ _ (and_left (eqb (key_id m) i) _ y))) (sym (eqb-true _ _ (and_right (eqb (key_id m) i) _ y))) ∙ key-whole m h)))
        (λ f. rw f)

    not_found : found key ≡ false → value (suc key) ≡ pos 0
    not_found e =
        by-test (eqb v w)
        (λ y. let f : is_zero (total_z (S key)) ≡ true = zero-if (eqb (key_window key) w) (is_zero (total_z (S key))) (ap (λ (x : ℕ). eqb x w) (key-of-window i v b) ∙ y) e in
        rw (y, lt-ltb key (suc key) (omega arith)) (is-zero (total_z (S key)) f))
        (λ n. rw n)
      where
        zero-if : (x y : Bool) → x ≡ true → (x && not y) ≡ false → y ≡ true
        zero-if true true p q = refl
        zero-if true false p q = let z : ◌≡◌ {A = ℕ} 0 1 = cc in absurd (omega arith)
        zero-if false y p q = let z : ◌≡◌ {A = ℕ} 0 1 = cc in absurd (omega arith)

    is_found : found key ≡ true → value (suc key) ≡ total_z (S key)
    is_found e =
        let y : eqb v w ≡ true = ap (λ (x : ℕ). eqb x w) (sym (key-of-window i v b)) ∙ and_left (eqb (key_window key) w) _ e in
        rw (y, lt-ltb key (suc key) (omega arith))

    before-key : value key ≡ pos 0
    before-key = by-test (eqb v w) (λ y. rw (y, le-ltb key key (omega arith))) (λ n. rw n)

    gather-sum : (m : ℕ) → m ≤ 67108864 → sum (gather m) i v ≡ value m
    unfolding over_keys
    gather-sum zero h = sym (by-test (eqb v w) (λ y. rw (y, le-ltb key 0 (omega arith))) (λ n. rw n))
    gather-sum (suc m) h =
        let r = gather-sum m (omega arith) in
        by-test (eqb key m)
        (λ y. let e : key ≡ m = eqb-true key m y in
        by-test (found key)
        (λ f. ap (λ (l : List Posting). sum l i v) (ap (λ (k : ℕ). gather (suc k)) (sym e) ∙ gather-more key f)
        ∙ ap₂ ◌+ℤ◌ (own f) (ap (λ (k : ℕ). sum (gather k) i v) e ∙ r ∙ ap value (sym e) ∙ before-key)
        ∙ +ℤ_idr (total_z (S key)) ∙ sym (is_found f) ∙ ap (λ (k : ℕ). value (suc k)) e)
        (λ f. ap (λ (l : List Posting). sum l i v) (ap (λ (k : ℕ). gather (suc k)) (sym e) ∙ gather_none key f)
        ∙ ap (λ (k : ℕ). sum (gather k) i v) e ∙ r ∙ ap value (sym e) ∙ before-key ∙ sym (not_found f) ∙ ap (λ (k : ℕ). value (suc k)) e))
        (λ n. let z = eqb-false key m n in
        let s : value m ≡ value (suc m) = ap (λ (t : Bool). cond (eqb v w && t) (total_z (S key)) (pos 0)) (same_test z) in
        by-test (found m)
        (λ f. ap (λ (l : List Posting). sum l i v) (gather-more m f) ∙ ap₂ ◌+ℤ◌ (other m (omega arith) z (total_z (S m))) r ∙ +ℤ_idl (value m) ∙ s)
        (λ f. ap (λ (l : List Posting). sum l i v) (gather_none m f) ∙ r ∙ s))
      where
        same_test : (key ≡ m → ⊥) → ltb key m ≡ ltb key (suc m)
        same_test z =
            by-test (ltb key m)
            (λ y. rw (y, lt-ltb key (suc m) (omega (arith, ltb-true key m y))))
            (λ n. rw (n, le-ltb key (suc m) (omega (arith, ltb-false key m n))))

-- ---- partitions and buffer

-- a list whose postings have keys has no sum elsewhere
no-sum : (i v : ℕ) (l : List Posting) → every is_keyed l ≡ true → (leb i 1023 && leb v 65535) ≡ false → sum l i v ≡ pos 0
no-sum i v [] k n = refl
no-sum i v (p ∷ l) k n =
    by-test (eqb p.id i && eqb p.window v)
    (λ y. let a : p.id ≡ i = eqb-true _ _ (and_left (eqb p.id i) _ y) in
    let b : p.window ≡ v = eqb-true _ _ (and_right (eqb p.id i) _ y) in
    let e : (leb i 1023 && leb v 65535) ≡ true = rw (← a, ← b) (and_left (is_keyed p) _ k) in
    let z : true ≡ false = sym e ∙ n in let o : ◌≡◌ {A = ℕ} 0 1 = cc in absurd (omega arith))
    (λ f. rw (f, +ℤ_idl (sum l i v)) (no-sum i v l (and_right (is_keyed p) _ k) n))

-- the window's sums are in range where each of its pairs is
range_all : (w : ℕ) (l : List Posting) → every is_keyed l ≡ true → ((i : ℕ) → i ≤ 1023 → w ≤ 65535 → nat_abs (sum l i w) ≤ 32767) → sums_in_range (of_window w l) ≡ true
unfolding sums_in_range pairs
range_all w l k h =
    every-member (λ p. in_range p.count) (pairs (of_window w l))
    (λ p m. let own = every-puts (λ q. eqb q.window w) (λ q c e. e) (of_window w l) [] (every-kept (λ q. eqb q.window w) l) refl in
    let keyed = every-puts is_keyed (λ q c e. e) (of_window w l) [] (every-keep (λ q. eqb q.window w) is_keyed l k) refl in
    let e : p.window ≡ w = eqb-true _ _ (every-mem (λ q. eqb q.window w) (pairs (of_window w l)) own m) in
    let f : is_keyed p ≡ true = every-mem is_keyed (pairs (of_window w l)) keyed m in
    let g : p.window ≤ 65535 = leb-true _ _ (and_right (leb p.id 1023) _ f) in
    let s : p.count ≡ sum l p.id w =
    sym (ordered-sum (pairs (of_window w l)) (pairs-ordered (of_window w l)) m) ∙ sum-pairs p.id p.window (of_window w l) ∙ rw e (window-sum w p.id l) in
    rw s (le-leb _ _ (h p.id (leb-true _ _ (and_left (leb p.id 1023) _ f)) (omega arith))))

module _ (w : ℕ) (ls : List (List Posting)) (m : List Posting) (lk : every (every is_keyed) ls ≡ true) (mk : every is_keyed m ≡ true) where
  -- one group of the lists' items, and one of the other list's alone
  abbrev pub gs : List Group
  gs = map (map item_of) ls ∷ (map item_of m ∷ []) ∷ []

  abbrev pub all : List Posting
  all = joined ls ++ m

  abbrev at : ℕ → List ℤ
  at k = map (sums k) gs

  pub joined-keyed : (xs : List (List Posting)) → every (every is_keyed) xs ≡ true → every is_keyed (joined xs) ≡ true
  joined-keyed [] e = refl
  joined-keyed (x ∷ xs) e = every_append is_keyed x (joined xs) ∙ and_both (every is_keyed x) _ (and_left (every is_keyed x) _ e) (joined-keyed xs (and_right (every is_keyed x) _ e))

  pub all-keyed : every is_keyed all ≡ true
  all-keyed = every_append is_keyed (joined ls) m ∙ and_both (every is_keyed (joined ls)) _ (joined-keyed ls lk) mk

  -- the sums under a key are those of its pair
  module _ (i v : ℕ) (a : i ≤ 1023) (b : v ≤ 65535) where
    first : sums (key_of i v) (map (map item_of) ls) ≡ sum (joined ls) i v
    first = sums-keyed i v a b ls lk

    second : sums (key_of i v) (map item_of m ∷ []) ≡ sum m i v
    second = +ℤ_idr (sum_of (key_of i v) (map item_of m)) ∙ sum-keyed i v a b m mk

    total-at : total_z (at (key_of i v)) ≡ sum all i v
    total-at = rw (first, second, +ℤ_idr (sum m i v)) (sym (sum-append i v (joined ls) m))

    ranges-at : in_ranges (at (key_of i v)) ≡ (in_range (sum (joined ls) i v) && in_range (sum all i v))
    ranges-at = rw (first, second, +ℤ_idr (sum m i v), sum-append i v (joined ls) m)

  -- the sums in range
  abbrev inside : Bool
  inside = sums_in_range (of_window w (joined ls)) && sums_in_range (of_window w all)

  to-checked : inside ≡ true → window_checked w gs ≡ true
  unfolding window_checked
  to-checked e =
      all-checked w at 67108864
      (λ k h. by-test (eqb (key_window k) w)
      (λ y. let i = key_id k in
      let v = key_window k in
      let q : v ≡ w = eqb-true v w y in
      let a = window-fits w i (joined ls) (and_left (sums_in_range (of_window w (joined ls))) _ e) in
      let b = window-fits w i all (and_right (sums_in_range (of_window w (joined ls))) _ e) in
      let r = ranges-at i v (omega arith) (omega arith) in
      let s : in_ranges (at k) ≡ (in_range (sum (joined ls) i v) && in_range (sum all i v)) = ap (λ (x : ℕ). in_ranges (at x)) (sym (key-whole k h)) ∙ r in
      rw (y, s, q, le-leb _ _ a, le-leb _ _ b))
      (λ n. rw n))

  from-checked : window_checked w gs ≡ true → inside ≡ true
  unfolding window_checked
  from-checked e =
      and_both (sums_in_range (of_window w (joined ls))) _
      (range_all w (joined ls) (joined-keyed ls lk) (λ i a b. leb-true _ _ (and_left (in_range (sum (joined ls) i w)) _ (here i a b))))
      (range_all w all all-keyed (λ i a b. leb-true _ _ (and_right (in_range (sum (joined ls) i w)) _ (here i a b))))
    where
      here : (i : ℕ) → i ≤ 1023 → w ≤ 65535 → (in_range (sum (joined ls) i w) && in_range (sum all i w)) ≡ true
      here i a b =
          let t = each-checked w at 67108864 e (key_of i w) (key_below i w b) in
          let y = eq-eqb (key_window (key_of i w)) w (key-of-window i w b) in
          sym (ranges-at i w a b) ∙ rw y at t

  -- the walk's test is that of the window's sums
  pub checked-sums : window_checked w gs ≡ inside
  checked-sums =
      by-test inside (λ y. to-checked y ∙ sym y)
      (λ n. by-test (window_checked w gs) (λ y. let z : true ≡ false = sym (from-checked y) ∙ n in y ∙ z ∙ sym n) (λ f. f ∙ sym n))

  -- and what it gathers are the window's counts
  pub gathered-counts : window_gathered w gs ≡ counts_of w all
  unfolding window_gathered
  gathered-counts =
      same-sums (gather w at 67108864) (counts_of w all) (gather-ordered w at 67108864 (omega arith)) (counts-ordered w all) (gather-counts w at 67108864) (counts_some w all) each
    where
      kept : every is_keyed (gather w at 67108864) ≡ true
      kept = every-from (under w at 67108864) (under w at 67108864) is_keyed (λ p e f. and_left (is_keyed p) _ e) (gather w at 67108864) (gather-under w at 67108864 (omega arith)) (gather-under w at 67108864 (omega arith))

      each : (i v : ℕ) → sum (gather w at 67108864) i v ≡ sum (counts_of w all) i v
      each i v =
          by-test (leb i 1023 && leb v 65535)
          (λ y. let a : i ≤ 1023 = leb-true _ _ (and_left (leb i 1023) _ y) in
          let b : v ≤ 65535 = leb-true _ _ (and_right (leb i 1023) _ y) in
          gather-sum w at i v a b 67108864 (omega arith)
          ∙ by-test (eqb v w)
          (λ q. let r : v ≡ w = eqb-true v w q in
          let s : sum all i v ≡ sum (counts_of w all) i v = rw r (sym (counts-own w all i)) in
          rw (q, lt-ltb (key_of i v) 67108864 (key_below i v b)) (total-at i v a b ∙ s))
          (λ n. rw n (sym (counts-other w all i v (eqb-false v w n)))))
          (λ n. no-sum i v (gather w at 67108864) kept n ∙ sym (no-sum i v (counts_of w all) (counts-pass w all is_keyed (λ q c e. e) all-keyed) n))

  -- the lists fall where they keep the rule, and the other one does
  pub falls-lists : list_rule m ≡ true → all_fall_all 67108864 gs ≡ every list_rule ls
  falls-lists r = rw (lists-rule ls lk, falls-rule m mk, r) (and-true (every list_rule ls))

  -- what the walk tells
  pub tally-lists : list_rule m ≡ true → tally_of w gs ≡ cond (every list_rule ls) (tally_if inside (counts_of w all)) faulty
  unfolding tally_of
  tally-lists r = rw (falls-lists r, checked-sums, gathered-counts)
