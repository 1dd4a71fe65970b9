-- Runs of stores into a list, padding, and lists of numbers of which none stands twice.
use mathlib.Core.Bool.{Bool, true, false, not, ◌&&◌, ◌||◌, true≢false, and_comm}
use mathlib.Core.List.{List, [], ◌∷◌, ◌++◌, append_assoc, append-nil}
use mathlib.Core.Path.{◌≡◌, refl, sym, ap, ◌∙◌}
use Prim.Native.Nat.{ℕ, zero, suc, ◌+◌, ◌-◌, ◌<◌, ◌≤◌}
use native.Mathlib.Nat.{zero-add, suc-sub-suc, suc-add, sub-zero}
use native.Mathlib.Omega.{arith}
use lib.Dec.{eqb, ltb}
use lib.ListN.{length, get_or, take, drop, set, replicate, length-append, take-append-drop, replicate-append-replicate}
use lib.Seq.{sets, sets-eq, take-set-le, drop-set-lt, length-take-le, take-suc, take_at, drop_at}
use borrow.Author.Tests.{eqb-true, eqb-false, eq-eqb, ne_eqb, ltb-true, not-true}
use Rattle.lists.specs.Lists.{keep, any, every, elem, different, up_to}
use Rattle.lists.proofs.Bools.{by-test, and_left, and_right, and_both, or_right, or-none}
use Rattle.lists.proofs.Tests.{keep_append, keep_all, every_append, any_append, length-keep}
use Rattle.lists.proofs.Runs.{apart as apart_by, apart-append, apart_none}
use Rattle.lists.proofs.Ranges.{length-rising, every-rising, different-rising, elem-rising}

-- Stores ------------------------------------------------------------------------------------------------------------

module _ {A : Type 0} where
  -- a store does not move a part before it
  pub part-set : (l : List A) (j n k : ℕ) (a : A) → j + n ≤ k → take n (drop j (set l k a)) ≡ take n (drop j l)
  part-set [] j n k a h = refl
  part-set (x ∷ l) zero n k a h = take-set-le n (x ∷ l) k a (omega arith)
  part-set (x ∷ l) (suc j) n zero a h = absurd (omega arith)
  part-set (x ∷ l) (suc j) n (suc k) a h = part-set l j n k a (omega arith)

  -- a run of stores does not move a part before it
  pub sets-before : (l : List A) (i : ℕ) (vs : List A) (j n : ℕ) → j + n ≤ i → take n (drop j (sets l i vs)) ≡ take n (drop j l)
  sets-before l i [] j n h = refl
  sets-before l i (a ∷ vs) j n h = sets-before (set l i a) (suc i) vs j n (omega arith) ∙ part-set l j n i a h

  -- nor what stands past it
  pub sets-past : (l : List A) (i : ℕ) (vs : List A) (j : ℕ) → i + length vs ≤ j → drop j (sets l i vs) ≡ drop j l
  sets-past l i [] j h = refl
  sets-past l i (a ∷ vs) j h = sets-past (set l i a) (suc i) vs j (omega arith) ∙ drop-set-lt j l i a (omega arith)

  -- a run of stores that fits is read back
  pub sets-back : (l : List A) (i n : ℕ) (vs : List A) → length vs ≡ n → i + n ≤ length l → take n (drop i (sets l i vs)) ≡ vs
  sets-back l i n vs e h =
      rw (sets-eq vs l i (omega arith), append_assoc (take i l) vs (drop (i + length vs) l))
      (rw (drop_at (take i l) (vs ++ drop (i + length vs) l) i (length-take-le i l (omega arith))) (take_at vs (drop (i + length vs) l) n e))

  -- a list padded to m + k is its first m padded to m, and the rest padded to k
  pub pad-split : (a : A) (m k : ℕ) (c : List A)
      → (take m c ++ replicate (m - length (take m c)) a) ++ (drop m c ++ replicate (k - length (drop m c)) a) ≡ c ++ replicate (m + k - length c) a
  pad-split a zero k c = rw (zero-add k)
  pad-split a (suc m) k [] = rw (sub-zero (suc m), sub-zero k, sub-zero (suc m + k)) (replicate-append-replicate (suc m) k a)
  pad-split a (suc m) k (x ∷ c) =
      rw (suc-sub-suc m (length (take m c)), suc-add m k, suc-sub-suc (m + k) (length c)) (ap (λ (r : List A). x ∷ r) (pad-split a m k c))

  -- Tests of some ----------------------------------------------------------------------------------------------------

  -- what none passes, none that is kept passes
  pub any-keep : (t u : A → Bool) (l : List A) → any t l ≡ false → any t (keep u l) ≡ false
  any-keep t u [] e = refl
  any-keep t u (x ∷ l) e =
      let n = or-none (t x) (any t l) e in
      by-test (u x) (λ y. rw (y, n.0) (any-keep t u l n.1)) (λ m. rw m (any-keep t u l n.1))

  -- where all pass one test, and what passes it fails another, none passes the other
  pub none_from : (t u : A → Bool) → ((x : A) → t x ≡ true → u x ≡ false) → (l : List A) → every t l ≡ true → any u l ≡ false
  none_from t u h [] e = refl
  none_from t u h (x ∷ l) e = rw (h x (and_left (t x) _ e)) (none_from t u h l (and_right (t x) _ e))

  -- the first of those that none passes
  pub any-take : (t : A → Bool) (k : ℕ) (l : List A) → any t l ≡ false → any t (take k l) ≡ false
  any-take t zero l e = refl
  any-take t (suc k) [] e = refl
  any-take t (suc k) (x ∷ l) e = let n = or-none (t x) (any t l) e in rw n.0 (any-take t k l n.1)

-- Numbers in a list ------------------------------------------------------------------------------------------------

-- what a test of all says of a number that is in the list
pub every-elem : (t : ℕ → Bool) (l : List ℕ) (n : ℕ) → every t l ≡ true → elem n l ≡ true → t n ≡ true
every-elem t [] n e m = absurd (true≢false (sym m))
every-elem t (x ∷ l) n e m =
    by-test (eqb x n)
    (λ y. ap t (sym (eqb-true x n y)) ∙ and_left (t x) _ e)
    (λ f. every-elem t l n (and_right (t x) _ e) (rw f at m))

-- and the way back
pub elem-every : (t : ℕ → Bool) (l : List ℕ) → ((n : ℕ) → elem n l ≡ true → t n ≡ true) → every t l ≡ true
elem-every t [] h = refl
elem-every t (x ∷ l) h =
    and_both (t x) _ (h x (rw (eq-eqb x x refl))) (elem-every t l (λ n m. h n (or_right (eqb x n) _ m)))

-- what a test of 0 to k - 1 says of a number below k
pub every-up_to : (t : ℕ → Bool) (k : ℕ) → every t (up_to k) ≡ true → (j : ℕ) → j < k → t j ≡ true
every-up_to t k e j h = every-elem t (up_to k) j e (elem-rising 0 k j (omega arith) (omega arith))

-- a number of two lists, one after the other
pub elem-append : (b : ℕ) (x y : List ℕ) → elem b (x ++ y) ≡ (elem b x || elem b y)
elem-append b x y = any_append (λ m. eqb m b) x y

pub elem-left : (b : ℕ) (x y : List ℕ) → elem b x ≡ true → elem b (x ++ y) ≡ true
elem-left b x y e = elem-append b x y ∙ ap (λ (t : Bool). t || elem b y) e

pub elem-right : (b : ℕ) (x y : List ℕ) → elem b y ≡ true → elem b (x ++ y) ≡ true
elem-right b x y e = elem-append b x y ∙ or_right (elem b x) _ e

pub elem-neither : (b : ℕ) (x y : List ℕ) → elem b x ≡ false → elem b y ≡ false → elem b (x ++ y) ≡ false
elem-neither b x y e f = elem-append b x y ∙ rw (e, f)

pub elem-none : (b : ℕ) (x y : List ℕ) → elem b (x ++ y) ≡ false → (elem b x ≡ false) × (elem b y ≡ false)
elem-none b x y e = or-none (elem b x) (elem b y) (sym (elem-append b x y) ∙ e)

-- a number that passes the test is kept
pub elem-keep : (t : ℕ → Bool) (l : List ℕ) (n : ℕ) → t n ≡ true → elem n l ≡ true → elem n (keep t l) ≡ true
elem-keep t [] n e m = m
elem-keep t (x ∷ l) n e m =
    by-test (eqb x n)
    (λ y. let k : t x ≡ true = ap t (eqb-true x n y) ∙ e in rw (k, y))
    (λ f. let r = elem-keep t l n e (rw f at m) in by-test (t x) (λ y. rw y (or_right (eqb x n) _ r)) (λ g. rw g r))

-- a number that is in the list has a place there
pub elem-place : (l : List ℕ) (n : ℕ) → elem n l ≡ true → (j : ℕ) × ((j < length l) × (get_or l j 0 ≡ n))
elem-place [] n m = absurd (true≢false (sym m))
elem-place (x ∷ l) n m =
    by-test (eqb x n)
    (λ y. (zero, (omega arith, eqb-true x n y)))
    (λ f. let r = elem-place l n (rw f at m) in (suc r.0, (omega (arith, r.1.0), r.1.1)))

-- None twice -------------------------------------------------------------------------------------------------------

-- what is kept of different numbers is different
pub different-keep : (t : ℕ → Bool) (l : List ℕ) → different l ≡ true → different (keep t l) ≡ true
different-keep t [] e = refl
different-keep t (x ∷ l) e =
    let n = not-true (elem x l) (and_left (not (elem x l)) _ e) in
    let r = different-keep t l (and_right (not (elem x l)) _ e) in
    by-test (t x) (λ y. rw (y, any-keep (λ m. eqb m x) t l n) r) (λ f. rw f r)

-- and so are the first of them
pub different-take : (k : ℕ) (l : List ℕ) → different l ≡ true → different (take k l) ≡ true
different-take zero l e = refl
different-take (suc k) [] e = refl
different-take (suc k) (x ∷ l) e =
    let n = not-true (elem x l) (and_left (not (elem x l)) _ e) in
    rw (any-take (λ m. eqb m x) k l n) (different-take k l (and_right (not (elem x l)) _ e))

-- a new number put in anywhere
pub different-insert : (a b : List ℕ) (x : ℕ) → elem x (a ++ b) ≡ false → different (a ++ b) ≡ true → different (a ++ (x ∷ b)) ≡ true
different-insert [] b x n e = rw n e
different-insert (y ∷ a) b x n e =
    let o = or-none (eqb y x) (elem x (a ++ b)) n in
    let f = not-true (elem y (a ++ b)) (and_left (not (elem y (a ++ b))) _ e) in
    let g = elem-none y a b f in
    let d : eqb x y ≡ false = ne_eqb x y (λ q. eqb-false y x o.0 (sym q)) in
    and_both (not (elem y (a ++ (x ∷ b)))) _
    (rw (any_append (λ m. eqb m y) a (x ∷ b), g.0, d, g.1))
    (different-insert a b x o.1 (and_right (not (elem y (a ++ b))) _ e))

-- two parts change places
pub different-swap : (a b : List ℕ) → different (a ++ b) ≡ true → different (b ++ a) ≡ true
different-swap [] b e = rw (append-nil b) e
different-swap (x ∷ a) b e =
    let n = not-true (elem x (a ++ b)) (and_left (not (elem x (a ++ b))) _ e) in
    let g = elem-none x a b n in
    different-insert b a x (rw (any_append (λ m. eqb m x) b a, g.1) g.0) (different-swap a b (and_right (not (elem x (a ++ b))) _ e))

-- a list that has no number twice, in two parts: neither has one twice, and no number stands in both
pub record Parted (a b : List ℕ) : Type 0 where
  pub left : different a ≡ true
  pub right : different b ≡ true
  pub apart : every (λ d. not (elem d a)) b ≡ true

pub different-parts : (a b : List ℕ) → different (a ++ b) ≡ true → Parted a b
different-parts a b e =
    let none : ℕ → Bool = λ k. false in
    let d : (apart_by none a && apart_by (λ k. elem k a) b) ≡ true = sym (apart-append none (λ k. elem k a) a b (λ k. refl)) ∙ apart_none none (a ++ b) (λ k. refl) ∙ e in
    let r = and_right (apart_by none a) _ d in
    record {
      left = sym (apart_none none a (λ k. refl)) ∙ and_left (apart_by none a) _ d;
      right = and_left (different b) _ r;
      apart = and_right (different b) _ r;
    }

-- two lists without repetition that share no number
pub different-join : (a b : List ℕ) → different a ≡ true → different b ≡ true → every (λ d. not (elem d a)) b ≡ true → different (a ++ b) ≡ true
different-join a b x y z =
    let none : ℕ → Bool = λ k. false in
    sym (apart_none none (a ++ b) (λ k. refl)) ∙ apart-append none (λ k. elem k a) a b (λ k. refl)
    ∙ and_both (apart_by none a) _ (apart_none none a (λ k. refl) ∙ x) (and_both (different b) _ y z)

-- Kept but for one -------------------------------------------------------------------------------------------------

-- two tests that agree on every number but x
module _ (t u : ℕ → Bool) (x : ℕ) (else : (b : ℕ) → (x ≡ b → ⊥) → t b ≡ u b) where
  keep-else : (l : List ℕ) → elem x l ≡ false → keep t l ≡ keep u l
  keep-else [] e = refl
  keep-else (n ∷ l) e =
      let o = or-none (eqb n x) _ e in
      rw (else n (λ r. eqb-false n x o.0 (sym r)), keep-else l o.1)

  -- where x passes only one of them, the other keeps one number less of different numbers
  pub keep-less : t x ≡ true → u x ≡ false → (l : List ℕ) → different l ≡ true → elem x l ≡ true → length (keep t l) ≡ suc (length (keep u l))
  keep-less y z [] d m = absurd (true≢false (sym m))
  keep-less y z (n ∷ l) d m =
      by-test (eqb n x)
      (λ e. let q = eqb-true n x e in
      let o : elem x l ≡ false = ap (λ (k : ℕ). elem k l) (sym q) ∙ not-true (elem n l) (and_left (not (elem n l)) _ d) in
      rw (q, y, z, keep-else l o))
      (λ e. let f = keep-less y z l (and_right (not (elem n l)) _ d) (rw e at m) in
      rw (else n (λ r. eqb-false n x e (sym r))) (by-test (u n) (λ g. rw g (ap suc f)) (λ g. rw g f)))

-- of the numbers below n, those that are not in a list of different ones
pub keep-without : (n : ℕ) (l : List ℕ) → different l ≡ true → every (λ b. ltb b n) l ≡ true → length (keep (λ b. not (elem b l)) (up_to n)) + length l ≡ n
keep-without n [] d e = ap (λ (m : ℕ). m + 0) (ap length (keep_all (λ (b : ℕ). true) (up_to n) (every-rising (λ b. true) 0 n (λ j x y. refl))) ∙ length-rising 0 n) ∙ omega arith
keep-without n (x ∷ l) d e =
    let low : x < n = ltb-true x n (and_left (ltb x n) _ e) in
    let new : elem x l ≡ false = not-true _ (and_left (not (elem x l)) _ d) in
    omega (
      arith,
      keep-without n l (and_right (not (elem x l)) _ d) (and_right (ltb x n) _ e),
      keep-less (λ b. not (elem b l)) (λ b. not (elem b (x ∷ l))) x (λ b r. rw (ne_eqb x b r)) (rw new) (rw (eq-eqb x x refl)) (up_to n) (different-rising 0 n) (elem-rising 0 n x (omega arith) (omega arith)),
    )

-- all but one, of a list that ends with it and another
pub keep-others : (l : List ℕ) (x y : ℕ) → different ((l ++ (x ∷ [])) ++ (y ∷ [])) ≡ true → keep (λ d. not (eqb d x)) ((l ++ (x ∷ [])) ++ (y ∷ [])) ≡ l ++ (y ∷ [])
keep-others [] x y d =
    let o = or-none (eqb y x) false (not-true _ (and_left (not (elem x (y ∷ []))) _ d)) in
    rw (eq-eqb x x refl, o.0)
keep-others (g ∷ l) x y d =
    let e = not-true (elem g ((l ++ (x ∷ [])) ++ (y ∷ []))) (and_left (not (elem g ((l ++ (x ∷ [])) ++ (y ∷ [])))) _ d) in
    let r = and_right (not (elem g ((l ++ (x ∷ [])) ++ (y ∷ [])))) _ d in
    let p = (elem-none g l (x ∷ []) (elem-none g (l ++ (x ∷ [])) (y ∷ []) e).0).1 in
    let q = (or-none (eqb x g) false p).0 in
    let s : eqb g x ≡ false = ne_eqb g x (λ z. eqb-false x g q (sym z)) in
    rw (s, keep-others l x y r)

-- A list turned, so that another element comes first ---------------------------------------------------------------

module _ {A : Type 0} (k : ℕ) (l : List A) where
  -- all pass as before
  pub every-turned : (t : A → Bool) → every t (drop k l ++ take k l) ≡ every t l
  every-turned t =
      every_append t (drop k l) (take k l) ∙ and_comm (every t (drop k l)) (every t (take k l)) ∙ sym (every_append t (take k l) (drop k l))
      ∙ ap (every t) (take-append-drop k l)

  -- as many are kept
  pub length-keep-turned : (t : A → Bool) → length (keep t (drop k l ++ take k l)) ≡ length (keep t l)
  length-keep-turned t =
      let e : keep t l ≡ keep t (take k l) ++ keep t (drop k l) = ap (keep t) (sym (take-append-drop k l)) ∙ keep_append t (take k l) (drop k l) in
      rw (keep_append t (drop k l) (take k l), e)
      (omega (arith, length-append (keep t (drop k l)) (keep t (take k l)), length-append (keep t (take k l)) (keep t (drop k l))))

-- and different numbers stay different
pub different-turned : (k : ℕ) (l : List ℕ) → different l ≡ true → different (drop k l ++ take k l) ≡ true
different-turned k l e = different-swap (take k l) (drop k l) (rw (take-append-drop k l) e)

-- the first element that a list keeps: what stands before it is not kept
pub record FirstKept (t : ℕ → Bool) (l : List ℕ) (b : ℕ) (rest : List ℕ) (i : ℕ) : Type 0 where
  pub inside : i < length l
  pub here : get_or l i 0 ≡ b
  pub passes : t b ≡ true
  pub none : keep t (take i l) ≡ []
  pub later : keep t (drop (suc i) l) ≡ rest

pub first-kept : (t : ℕ → Bool) (l : List ℕ) (b : ℕ) (rest : List ℕ) → keep t l ≡ b ∷ rest → (i : ℕ) × FirstKept t l b rest i
first-kept t [] b rest e = let z : ◌≡◌ {A = ℕ} 0 1 = cc in absurd (omega arith)
first-kept t (x ∷ l) b rest e =
    by-test (t x)
    (λ y. let f : x ∷ keep t l ≡ b ∷ rest = rw y at e in
    let g : x ≡ b = cc in
    let h : keep t l ≡ rest = cc in
    (0, record { inside = omega arith; here = g; passes = rw g at y; none = refl; later = h }))
    (λ n. let r = first-kept t l b rest (rw n at e) in
    (suc r.0, record { inside = omega (arith, r.1.inside); here = r.1.here; passes = r.1.passes; none = rw n r.1.none; later = r.1.later }))

-- kept of a list that is turned round past the first kept
pub keep-turned : (t : ℕ → Bool) (l : List ℕ) (b : ℕ) (rest : List ℕ) (i : ℕ) → FirstKept t l b rest i → keep t (drop (suc i) l ++ take (suc i) l) ≡ rest ++ (b ∷ [])
keep-turned t l b rest i f =
    let k = f.inside in
    let e : take (suc i) l ≡ take i l ++ (b ∷ []) = rw (← f.here) (take-suc l i 0 k) in
    keep_append t (drop (suc i) l) (take (suc i) l)
    ∙ rw (f.later, e) (ap (λ (r : List ℕ). rest ++ r) (keep_append t (take i l) (b ∷ []) ∙ rw (f.none, f.passes)))

-- ---- as many as another list has

-- a list is longer than what is left of it without one of its numbers
length_without : (x : ℕ) (l : List ℕ) → elem x l ≡ true → length (keep (λ n. not (eqb n x)) l) < length l
length_without x [] m = absurd (true≢false (sym m))
length_without x (n ∷ l) m =
    by-test (eqb n x)
    (λ y. rw y (omega (arith, length-keep (λ n. not (eqb n x)) l)))
    (λ f. rw f (omega (arith, length_without x l (rw f at m))))

-- different numbers that all stand in a list are at most as many as it has
pub different-within : (l m : List ℕ) → different l ≡ true → every (λ n. elem n m) l ≡ true → length l ≤ length m
different-within [] m d e = omega arith
different-within (x ∷ l) m d e =
    let new = not-true (elem x l) (and_left (not (elem x l)) _ d) in
    let rest : every (λ n. elem n (keep (λ k. not (eqb k x)) m)) l ≡ true =
    elem-every _ l
    (λ n i. elem-keep (λ k. not (eqb k x)) m n
    (rw (ne_eqb n x (λ q. true≢false (sym i ∙ ap (λ k. elem k l) q ∙ new))))
    (every-elem (λ k. elem k m) l n (and_right (elem x m) _ e) i)) in
    omega (
      arith,
      different-within l (keep (λ k. not (eqb k x)) m) (and_right (not (elem x l)) _ d) rest,
      length_without x m (and_left (elem x m) _ e),
    )
