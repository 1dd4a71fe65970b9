-- The pairs by a test of every key are the pairs by insertion.
use Rattle.lists.proofs.Prelude.{Bool, true, false, cond, ◌||◌, or_assoc, List, [], ◌∷◌, ◌≡◌, refl, sym, ap, ◌∙◌, ℕ, zero, suc, ◌<◌, ◌≤◌, arith, ltb, eqb, ℤ, pos, ◌+ℤ◌, +ℤ_idl, +ℤ_idr, +ℤ_assoc, ltb-true, ltb-false, eqb-true, eqb-false, eq-eqb, ne_eqb, by-test, and_left, and_right, or-none, or_swap, or_self_left}
use Rattle.keyed.specs.Keys.{Item, falls, all_fall, sum_of, sums, held_in, held, over_keys, Pair, add_pair, key_pairs}
use Rattle.keyed.specs.Collect.{put_item, put_all, collect}
use Rattle.lists.proofs.Ints.{sum-swap}
use Rattle.keyed.proofs.Walk.{over-same, over_none, over-step}

held_p : ℕ → List Pair → Bool
held_p k [] = false
held_p k (p ∷ ps) = eqb p.key k || held_p k ps

sum_p : ℕ → List Pair → ℤ
sum_p k [] = pos 0
sum_p k (p ∷ ps) = cond (eqb p.key k) p.sum (pos 0) +ℤ sum_p k ps

-- by falling key, all below m
data Sorted : ℕ → List Pair → Type 0 where
  none : {m : ℕ} → Sorted m []
  more : {m : ℕ} {p : Pair} {ps : List Pair} → p.key < m → Sorted p.key ps → Sorted m (p ∷ ps)

-- ---- what stands at and above a bound

held_high : (m j : ℕ) (ps : List Pair) → m ≤ j → Sorted m ps → held_p j ps ≡ false
unfolding held_p
held_high m j [] h s = refl
held_high m j (p ∷ ps) h (more l s) = rw (ne_eqb p.key j (λ q. omega arith)) (held_high p.key j ps (omega arith) s)

sum-high : (m j : ℕ) (ps : List Pair) → m ≤ j → Sorted m ps → sum_p j ps ≡ pos 0
unfolding sum_p
sum-high m j [] h s = refl
sum-high m j (p ∷ ps) h (more l s) = rw (ne_eqb p.key j (λ q. omega arith)) (+ℤ_idl _ ∙ sum-high p.key j ps (omega arith) s)

-- ---- sorted pairs are made again by a test of every key

rebuild : (m : ℕ) (ps : List Pair) → Sorted m ps → over_keys add_pair [] m (λ k. (held_p k ps, sum_p k ps)) ≡ ps
unfolding held_p sum_p
rebuild m [] s = over_none add_pair [] m (λ k. (false, pos 0)) (λ j r. refl)
rebuild m (p ∷ ps) (more l s) =
    over-step add_pair [] p.key m l (λ k. (held_p k (p ∷ ps), sum_p k (p ∷ ps))) (λ k. (held_p k ps, sum_p k ps)) (true, p.sum)
    (λ j r h. rw (ne_eqb p.key j (λ q. omega arith), held_high p.key j ps (omega arith) s))
    (rw (eq-eqb p.key p.key refl, sum-high p.key p.key ps (omega arith) s, +ℤ_idr p.sum))
    (λ j h. rw (ne_eqb p.key j (λ q. omega arith), +ℤ_idl (sum_p j ps)))
    ∙ ap (λ (r : List Pair). p ∷ r) (rebuild p.key ps s)

-- ---- one item put in

module _ (k : ℕ) (x : Item) where
  put-held : (ps : List Pair) → held_p k (put_item x ps) ≡ (eqb x.key k || held_p k ps)
  unfolding held_p
  put-held [] = refl
  put-held (p ∷ ps) =
      by-test (ltb p.key x.key) (λ e. rw e)
      (λ e. by-test (eqb p.key x.key)
      (λ q. let z = eqb-true p.key x.key q in rw (e, q, z) (sym (or_self_left (eqb x.key k) (held_p k ps))))
      (λ q. rw (e, q, put-held ps) (or_swap (eqb p.key k) (eqb x.key k) (held_p k ps))))

  put-sum : (ps : List Pair) → sum_p k (put_item x ps) ≡ cond (eqb x.key k) x.val (pos 0) +ℤ sum_p k ps
  unfolding sum_p
  put-sum [] = refl
  put-sum (p ∷ ps) =
      by-test (ltb p.key x.key) (λ e. rw e)
      (λ e. by-test (eqb p.key x.key)
      (λ q. let z = eqb-true p.key x.key q in rw (e, q, z) (both (eqb x.key k)))
      (λ q. rw (e, q, put-sum ps) (sum-swap (cond (eqb p.key k) p.sum (pos 0)) (cond (eqb x.key k) x.val (pos 0)) (sum_p k ps))))
    where
      both : (t : Bool) → cond t (x.val +ℤ p.sum) (pos 0) +ℤ sum_p k ps ≡ cond t x.val (pos 0) +ℤ (cond t p.sum (pos 0) +ℤ sum_p k ps)
      both true = +ℤ_assoc x.val p.sum (sum_p k ps)
      both false = sym (+ℤ_idl _)

put-sorted : (m : ℕ) (x : Item) (ps : List Pair) → x.key < m → Sorted m ps → Sorted m (put_item x ps)
put-sorted m x [] h s = more h none
put-sorted m x (p ∷ ps) h (more l s) =
    by-test (ltb p.key x.key) (λ e. rw e (more h (more (ltb-true p.key x.key e) s)))
    (λ e. by-test (eqb p.key x.key)
    (λ q. rw (e, q) (more l s))
    (λ q. let n = ltb-false p.key x.key e in rw (e, q) (more l (put-sorted p.key x ps (omega (arith, eqb-false p.key x.key q)) s))))

-- ---- all lists

module _ (k : ℕ) where
  all_held : (l : List Item) (ps : List Pair) → held_p k (put_all l ps) ≡ (held_in k l || held_p k ps)
  all_held [] ps = refl
  all_held (x ∷ l) ps = put-held k x (put_all l ps) ∙ rw (all_held l ps) (sym (or_assoc (eqb x.key k) (held_in k l) (held_p k ps)))

  all-sum : (l : List Item) (ps : List Pair) → sum_p k (put_all l ps) ≡ sum_of k l +ℤ sum_p k ps
  all-sum [] ps = sym (+ℤ_idl _)
  all-sum (x ∷ l) ps = put-sum k x (put_all l ps) ∙ rw (all-sum l ps) (sym (+ℤ_assoc (cond (eqb x.key k) x.val (pos 0)) (sum_of k l) (sum_p k ps)))

  held-collect : (ls : List (List Item)) → held_p k (collect ls) ≡ held k ls
  unfolding held_p
  held-collect [] = refl
  held-collect (l ∷ ls) = all_held l (collect ls) ∙ rw (held-collect ls)

  sum-collect : (ls : List (List Item)) → sum_p k (collect ls) ≡ sums k ls
  unfolding sum_p
  sum-collect [] = refl
  sum-collect (l ∷ ls) = all-sum l (collect ls) ∙ rw (sum-collect ls)

list-sorted : (m n : ℕ) (l : List Item) (ps : List Pair) → n ≤ m → falls n l ≡ true → Sorted m ps → Sorted m (put_all l ps)
list-sorted m n [] ps h e s = s
list-sorted m n (x ∷ l) ps h e s =
    let a : x.key < n = ltb-true x.key n (and_left _ _ e) in
    let b : falls x.key l ≡ true = and_right x.fine _ (and_right (ltb x.key n) _ e) in
    put-sorted m x (put_all l ps) (omega arith) (list-sorted m x.key l ps (omega arith) b s)

collect-sorted : (m : ℕ) (ls : List (List Item)) → all_fall m ls ≡ true → Sorted m (collect ls)
collect-sorted m [] e = none
collect-sorted m (l ∷ ls) e = list-sorted m m l (collect ls) (omega arith) (and_left _ _ e) (collect-sorted m ls (and_right (falls m l) _ e))

pub pairs-collect : (m : ℕ) (ls : List (List Item)) → all_fall m ls ≡ true → key_pairs m ls ≡ collect ls
pairs-collect m ls e =
    over-same add_pair [] m (λ k. (held k ls, sums k ls)) (λ k. (held_p k (collect ls), sum_p k (collect ls))) (λ j h. rw (held-collect j ls, sum-collect j ls))
    ∙ rebuild m (collect ls) (collect-sorted m ls e)

-- ---- f over all keys is f over the pairs, where f passes over a sum of 0

unheld : (k : ℕ) (l : List Item) → held_in k l ≡ false → sum_of k l ≡ pos 0
unheld k [] e = refl
unheld k (x ∷ l) e = let n = or-none (eqb x.key k) (held_in k l) e in rw n.0 (+ℤ_idl _ ∙ unheld k l n.1)

unheld-all : (k : ℕ) (ls : List (List Item)) → held k ls ≡ false → sums k ls ≡ pos 0
unheld-all k [] e = refl
unheld-all k (l ∷ ls) e = let n = or-none (held_in k l) (held k ls) e in rw (unheld k l n.0, unheld-all k ls n.1)

abbrev pub over_pairs : {A : Type 0} → (ℕ → ℤ → A → A) → A → List Pair → A
over_pairs f a [] = a
over_pairs f a (p ∷ ps) = f p.key p.sum (over_pairs f a ps)

module _ {A : Type 0} (f : ℕ → ℤ → A → A) (a : A) (still : (k : ℕ) (r : A) → f k (pos 0) r ≡ r) where
  over-pairs : (m : ℕ) (ls : List (List Item)) → over_keys f a m (λ k. sums k ls) ≡ over_pairs f a (key_pairs m ls)
  unfolding over_keys
  over-pairs zero ls = refl
  over-pairs (suc m) ls =
      by-test (held m ls) (λ e. rw (e, over-pairs m ls)) (λ e. rw (unheld-all m ls e, e, still) (over-pairs m ls))
