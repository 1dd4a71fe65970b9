-- The walk by falling key computes the definition: the laws of one step.
use Prim.Native.Nat.{max}
use Rattle.lists.proofs.Prelude.{true, false, ◌&&◌, ◌||◌, List, [], ◌∷◌, map, ◌⊎◌, inl, inr, ⊎_elim, ◌≡◌, refl, sym, ap, ◌∙◌, ℕ, zero, suc, ◌<◌, ◌≤◌, zero-le, eq-or-lt_of_le, arith, ltb, eqb, ℤ, pos, ◌+ℤ◌, +ℤ_idl, +ℤ_idr, +ℤ_assoc, +ℤ_comm, ltb-true, ltb-false, eqb-true, eqb-false, lt-ltb, eq-eqb, ne_eqb, by-test, and_left, and_right, and-swap, or_right}
use Rattle.keyed.specs.Keys.{Item, falls, all_fall, sum_of, sums, held_in, held, over_keys, add_pair, key_pairs, reach, topmost_from, rest, head_val, head_fine, head_vals, heads_fine}

sum-swap : (a b c d : ℤ) → (a +ℤ b) +ℤ (c +ℤ d) ≡ (a +ℤ c) +ℤ (b +ℤ d)
sum-swap a b c d =
    +ℤ_assoc a b (c +ℤ d) ∙ ap (λ (z : ℤ). a +ℤ z) (sym (+ℤ_assoc b c d) ∙ ap (λ (z : ℤ). z +ℤ d) (+ℤ_comm b c) ∙ +ℤ_assoc c b d) ∙ sym (+ℤ_assoc a c (b +ℤ d))

-- ---- one list

module _ (m k : ℕ) (low : k < m) where
  falls-rest : (l : List Item) → reach l ≤ suc k → falls m l ≡ (head_fine k l && falls k (rest k l))
  falls-rest [] h = refl
  falls-rest (x ∷ l) h =
      by-test (eqb x.key k)
      (λ e. let q = eqb-true x.key k e in rw (e, lt-ltb x.key m (omega arith), q))
      (λ e. let q : x.key < k = omega (arith, eqb-false x.key k e) in rw (e, lt-ltb x.key m (omega arith), lt-ltb x.key k q))

sum-at : (k : ℕ) (l : List Item) → sum_of k l ≡ head_val k l +ℤ sum_of k (rest k l)
sum-at k [] = refl
sum-at k (x ∷ l) = by-test (eqb x.key k) (λ e. rw e) (λ e. rw (e, e) (sym (+ℤ_idl _)))

sum-other : (j k : ℕ) → (j ≡ k → ⊥) → (l : List Item) → sum_of j (rest k l) ≡ sum_of j l
sum-other j k n [] = refl
sum-other j k n (x ∷ l) =
    by-test (eqb x.key k)
    (λ e. rw (e, ne_eqb x.key j (λ q. n (sym q ∙ eqb-true x.key k e))) (sym (+ℤ_idl _)))
    (λ e. rw e)

-- no item lies at or above the bound
sum-high : (m j : ℕ) → m ≤ j → (l : List Item) → falls m l ≡ true → sum_of j l ≡ pos 0
sum-high m j h [] e = refl
sum-high m j h (x ∷ l) e =
    let a : x.key < m = ltb-true x.key m (and_left _ _ e) in
    let b : falls x.key l ≡ true = and_right x.fine _ (and_right (ltb x.key m) _ e) in
    rw (ne_eqb x.key j (λ q. omega arith), sum-high x.key j (omega arith) l b)

sum_over : (m k j : ℕ) → k < j → (l : List Item) → reach l ≤ suc k → falls m l ≡ true → sum_of j l ≡ pos 0
sum_over m k j h [] u e = refl
sum_over m k j h (x ∷ l) u e =
    let b : falls x.key l ≡ true = and_right x.fine _ (and_right (ltb x.key m) _ e) in
    rw (ne_eqb x.key j (λ q. omega arith), sum-high x.key j (omega arith) l b)

-- ---- all lists

-- no head reaches above t
pub data Under (t : ℕ) : List (List Item) → Type 0 where
  none : Under t []
  more : {l : List Item} {ls : List (List Item)} → reach l ≤ t → Under t ls → Under t (l ∷ ls)

falls-all : (m k : ℕ) → k < m → (ls : List (List Item)) → Under (suc k) ls → all_fall m ls ≡ (heads_fine k ls && all_fall k (map (rest k) ls))
falls-all m k h [] u = refl
falls-all m k h (l ∷ ls) (more a u) =
    rw (falls-rest m k h l a, falls-all m k h ls u) (and-swap (head_fine k l) (falls k (rest k l)) (heads_fine k ls) (all_fall k (map (rest k) ls)))

sums_at : (k : ℕ) (ls : List (List Item)) → sums k ls ≡ head_vals k ls +ℤ sums k (map (rest k) ls)
sums_at k [] = refl
sums_at k (l ∷ ls) = rw (sum-at k l, sums_at k ls) (sum-swap (head_val k l) (sum_of k (rest k l)) (head_vals k ls) (sums k (map (rest k) ls)))

sums-other : (j k : ℕ) → (j ≡ k → ⊥) → (ls : List (List Item)) → sums j (map (rest k) ls) ≡ sums j ls
sums-other j k n [] = refl
sums-other j k n (l ∷ ls) = rw (sum-other j k n l, sums-other j k n ls)

pub sums-high : (m j : ℕ) → m ≤ j → (ls : List (List Item)) → all_fall m ls ≡ true → sums j ls ≡ pos 0
sums-high m j h [] e = refl
sums-high m j h (l ∷ ls) e = rw (sum-high m j h l (and_left _ _ e), sums-high m j h ls (and_right (falls m l) _ e))

sums-over : (m k j : ℕ) → k < j → (ls : List (List Item)) → Under (suc k) ls → all_fall m ls ≡ true → sums j ls ≡ pos 0
sums-over m k j h [] u e = refl
sums-over m k j h (l ∷ ls) (more a u) e = rw (sum_over m k j h l a (and_left _ _ e), sums-over m k j h ls u (and_right (falls m l) _ e))

-- ---- the greatest key

top_from : (t : ℕ) (ls : List (List Item)) → t ≤ topmost_from t ls
top_from t [] = omega arith
top_from t (l ∷ ls) = let b = top_from (max t (reach l)) ls in omega arith

pub under_top : (t : ℕ) (ls : List (List Item)) → Under (topmost_from t ls) ls
under_top t [] = none
under_top t (l ∷ ls) =
    let b = top_from (max t (reach l)) ls in
    more {l = l} (omega arith) (under_top (max t (reach l)) ls)

reach-falls : (m : ℕ) (l : List Item) → falls m l ≡ true → reach l ≤ m
reach-falls m [] e = zero-le
reach-falls m (x ∷ l) e = ltb-true x.key m (and_left _ _ e)

-- lists that fall below m do not reach above it
pub top-falls : (m t : ℕ) (ls : List (List Item)) → t ≤ m → all_fall m ls ≡ true → topmost_from t ls ≤ m
top-falls m t [] h e = h
top-falls m t (l ∷ ls) h e =
    let r = reach-falls m l (and_left _ _ e) in top-falls m (max t (reach l)) ls (omega arith) (and_right (falls m l) _ e)

-- ---- nothing is left

pub spent-falls : (m : ℕ) (ls : List (List Item)) → Under 0 ls → all_fall m ls ≡ true
spent-falls m [] u = refl
spent-falls m ([] ∷ ls) (more a u) = spent-falls m ls u
spent-falls m ((x ∷ l) ∷ ls) (more a u) = absurd (omega arith)

pub spent-sums : (j : ℕ) (ls : List (List Item)) → Under 0 ls → sums j ls ≡ pos 0
spent-sums j ls u = sums-high 0 j zero-le ls (spent-falls 0 ls u)

-- ---- which keys are held

held_high : (m j : ℕ) → m ≤ j → (l : List Item) → falls m l ≡ true → held_in j l ≡ false
held_high m j h [] e = refl
held_high m j h (x ∷ l) e =
    let a : x.key < m = ltb-true x.key m (and_left _ _ e) in
    let b : falls x.key l ≡ true = and_right x.fine _ (and_right (ltb x.key m) _ e) in
    rw (ne_eqb x.key j (λ q. omega arith), held_high x.key j (omega arith) l b)

held-over : (m k j : ℕ) → k < j → (l : List Item) → reach l ≤ suc k → falls m l ≡ true → held_in j l ≡ false
held-over m k j h [] u e = refl
held-over m k j h (x ∷ l) u e =
    let b : falls x.key l ≡ true = and_right x.fine _ (and_right (ltb x.key m) _ e) in
    rw (ne_eqb x.key j (λ q. omega arith), held_high x.key j (omega arith) l b)

held-other : (j k : ℕ) → (j ≡ k → ⊥) → (l : List Item) → held_in j (rest k l) ≡ held_in j l
held-other j k n [] = refl
held-other j k n (x ∷ l) = by-test (eqb x.key k) (λ e. rw (e, ne_eqb x.key j (λ q. n (sym q ∙ eqb-true x.key k e)))) (λ e. rw e)

held-reach : (k : ℕ) (l : List Item) → reach l ≡ suc k → held_in k l ≡ true
held-reach k [] e = absurd (omega arith)
held-reach k (x ∷ l) e = rw (eq-eqb x.key k (omega arith))

holds-over : (m k j : ℕ) → k < j → (ls : List (List Item)) → Under (suc k) ls → all_fall m ls ≡ true → held j ls ≡ false
holds-over m k j h [] u e = refl
holds-over m k j h (l ∷ ls) (more a u) e = rw (held-over m k j h l a (and_left _ _ e), holds-over m k j h ls u (and_right (falls m l) _ e))

holds-other : (j k : ℕ) → (j ≡ k → ⊥) → (ls : List (List Item)) → held j (map (rest k) ls) ≡ held j ls
holds-other j k n [] = refl
holds-other j k n (l ∷ ls) = rw (held-other j k n l, holds-other j k n ls)

holds-none : (j : ℕ) (ls : List (List Item)) → Under 0 ls → held j ls ≡ false
holds-none j [] u = refl
holds-none j ([] ∷ ls) (more a u) = holds-none j ls u
holds-none j ((x ∷ l) ∷ ls) (more a u) = absurd (omega arith)

-- the top is some list's
holds-top : (k t : ℕ) (ls : List (List Item)) → topmost_from t ls ≡ suc k → (t ≡ suc k) ⊎ (held k ls ≡ true)
holds-top k t [] e = inl e
holds-top k t (l ∷ ls) e = ⊎_elim here (λ h. inr (or_right (held_in k l) (held k ls) h)) (holds-top k (max t (reach l)) ls e)
  where
    here : max t (reach l) ≡ suc k → (t ≡ suc k) ⊎ ((held_in k l || held k ls) ≡ true)
    here q =
        by-test (ltb t (reach l))
        (λ b. let h = ltb-true t (reach l) b in inr (rw (held-reach k l (omega arith))))
        (λ b. let h = ltb-false t (reach l) b in inl (omega arith))

pub held-top : (k : ℕ) (ls : List (List Item)) → topmost_from 0 ls ≡ suc k → held k ls ≡ true
held-top k ls e = ⊎_elim (λ q. absurd (omega arith)) (λ h. h) (holds-top k 0 ls e)

-- ---- one step for one group of lists, at a key k that none of them exceeds

pub under : (k : ℕ) (ls : List (List Item)) → topmost_from 0 ls ≡ suc k → Under (suc k) ls
under k ls top = rw top at (under_top 0 ls)

-- which lists fall
pub step_falls : (m k : ℕ) (ls : List (List Item)) → Under (suc k) ls → k < m → all_fall m ls ≡ (heads_fine k ls && all_fall k (map (rest k) ls))
step_falls m k ls u low = falls-all m k low ls u

pub record Stepped (k : ℕ) (ls : List (List Item)) : Type 0 where
  pub over : (j : ℕ) → k < j → sums j ls ≡ pos 0
  pub here : sums k ls ≡ head_vals k ls
  pub below : (j : ℕ) → j < k → sums j ls ≡ sums j (map (rest k) ls)
  pub none : (j : ℕ) → k < j → held j ls ≡ false
  pub same : (j : ℕ) → j < k → held j ls ≡ held j (map (rest k) ls)

pub stepped : (m k : ℕ) (ls : List (List Item)) → Under (suc k) ls → k < m → all_fall m ls ≡ true → Stepped k ls
stepped m k ls u low e =
    let b : all_fall k (map (rest k) ls) ≡ true = and_right (heads_fine k ls) _ (sym (step_falls m k ls u low) ∙ e) in
    record {
      over = λ j h. sums-over m k j h ls u e;
      here = sums_at k ls ∙ rw (sums-high k k (omega arith) (map (rest k) ls) b) (+ℤ_idr _);
      below = λ j h. sym (sums-other j k (λ q. omega arith) ls);
      none = λ j h. holds-over m k j h ls u e;
      same = λ j h. sym (holds-other j k (λ q. omega arith) ls);
    }

-- ---- f over all keys

module _ {B A : Type 0} (f : ℕ → B → A → A) (a : A) where
  pub over-same : (b : ℕ) (S S' : ℕ → B) → ((j : ℕ) → j < b → S j ≡ S' j) → over_keys f a b S ≡ over_keys f a b S'
  unfolding over_keys
  over-same zero S S' h = refl
  over-same (suc b) S S' h = rw (h b (omega arith), over-same b S S' (λ j l. h j (omega arith)))

  pub over_none : (m : ℕ) (S : ℕ → B) → ((j : ℕ) (r : A) → f j (S j) r ≡ r) → over_keys f a m S ≡ a
  unfolding over_keys
  over_none zero S h = refl
  over_none (suc m) S h = h m (over_keys f a m S) ∙ over_none m S h

  over_skip : (k m : ℕ) → k < m → (S : ℕ → B) → ((j : ℕ) (r : A) → k < j → f j (S j) r ≡ r) → over_keys f a m S ≡ over_keys f a (suc k) S
  unfolding over_keys
  over_skip k zero h S n = absurd (omega arith)
  over_skip k (suc m) h S n = ⊎_elim (λ q. rw q) (λ q. n m (over_keys f a m S) q ∙ over_skip k m q S n) (eq-or-lt_of_le {n = k} {m = m} (omega arith))

  -- one step: nothing above k, v at k, and below k what S' says
  pub over-step : (k m : ℕ) → k < m → (S S' : ℕ → B) (v : B) → ((j : ℕ) (r : A) → k < j → f j (S j) r ≡ r) → S k ≡ v → ((j : ℕ) → j < k → S j ≡ S' j)
      → over_keys f a m S ≡ f k v (over_keys f a k S')
  unfolding over_keys
  over-step k m h S S' v n e below = over_skip k m h S n ∙ rw (e, over-same k S S' below)

-- ---- the pairs of a merge

pub pairs-none : (m : ℕ) (ls : List (List Item)) → Under 0 ls → key_pairs m ls ≡ []
pairs-none m ls u = over_none add_pair [] m (λ j. (held j ls, sums j ls)) (λ j r. rw (holds-none j ls u))

pub pairs-step : (m k : ℕ) (ls : List (List Item)) → topmost_from 0 ls ≡ suc k → k < m → all_fall m ls ≡ true
    → key_pairs m ls ≡ record { key = k; sum = head_vals k ls } ∷ key_pairs k (map (rest k) ls)
pairs-step m k ls top low e =
    let s = stepped m k ls (under k ls top) low e in
    over-step add_pair [] k m low (λ j. (held j ls, sums j ls)) (λ j. (held j (map (rest k) ls), sums j (map (rest k) ls))) (true, head_vals k ls)
    (λ j r h. rw (s.none j h))
    (rw (held-top k ls top, s.here))
    (λ j h. rw (s.same j h, s.below j h))
