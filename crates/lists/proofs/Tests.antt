-- Laws of tests over lists.
use mathlib.Core.Bool.{Bool, true, false, ◌&&◌, ◌||◌, and-true, and-false, true≢false}
use mathlib.Core.List.Memᴰ
use mathlib.Core.List.{List, [], ◌∷◌, ◌++◌, map, Memᴰ}
use mathlib.Core.Logic.{⊎_elim}
use mathlib.Core.Path.{◌≡◌, refl, sym, ap, ap₂, ◌∙◌}
use Prim.Native.Nat.{ℕ, zero, suc, ◌<◌, ◌≤◌}
use native.Mathlib.Omega.{arith}
use lib.ListN.{length, get_or, take, drop, replicate}
use lib.Dec.{eqb}
use borrow.Author.Tests.{eqb-true, eqb-false, ne_eqb}
use Rattle.lists.specs.Lists.{keep, any, every, empty, down}
use Rattle.lists.proofs.Bools.{by-test, and_left, and_right, and_both, or-none}

module _ {A : Type 0} where
  -- the table law: what a test computed over a whole table says of each entry
  pub every-at : (t : A → Bool) (l : List A) (d : A) → every t l ≡ true → (i : ℕ) → i < length l → t (get_or l i d) ≡ true
  every-at t [] d e i h = absurd (omega arith)
  every-at t (x ∷ l) d e zero h = and_left (t x) _ e
  every-at t (x ∷ l) d e (suc i) h = every-at t l d (and_right (t x) _ e) i (omega arith)

  pub any_none : (t : A → Bool) → ((x : A) → t x ≡ false) → (l : List A) → any t l ≡ false
  any_none t h [] = refl
  any_none t h (x ∷ l) = ap₂ ◌||◌ (h x) (any_none t h l)

  pub keep_same : (t u : A → Bool) → ((x : A) → t x ≡ u x) → (l : List A) → keep t l ≡ keep u l
  keep_same t u h [] = refl
  keep_same t u h (x ∷ l) = rw (h x, keep_same t u h l)

  -- tests that agree on all of a list keep the same of it
  pub keep-agree : (t u p : A → Bool) → ((x : A) → p x ≡ true → t x ≡ u x) → (l : List A) → every p l ≡ true → keep t l ≡ keep u l
  keep-agree t u p h [] e = refl
  keep-agree t u p h (x ∷ l) e = rw (h x (and_left (p x) _ e), keep-agree t u p h l (and_right (p x) _ e))

  pub keep_append : (t : A → Bool) (l m : List A) → keep t (l ++ m) ≡ keep t l ++ keep t m
  keep_append t [] m = refl
  keep_append t (x ∷ l) m = by-test (t x) (λ e. rw (e, keep_append t l m)) (λ e. rw (e, keep_append t l m))

  pub length-keep : (t : A → Bool) (l : List A) → length (keep t l) ≤ length l
  length-keep t [] = omega arith
  length-keep t (x ∷ l) = let h = length-keep t l in by-test (t x) (λ e. rw e (omega arith)) (λ e. rw e (omega arith))

  -- a test that follows from two others
  pub every-from : (t u v : A → Bool) → ((x : A) → t x ≡ true → u x ≡ true → v x ≡ true) → (l : List A) → every t l ≡ true → every u l ≡ true → every v l ≡ true
  every-from t u v h [] p q = refl
  every-from t u v h (x ∷ l) p q =
      and_both (v x) (every v l) (h x (and_left (t x) _ p) (and_left (u x) _ q)) (every-from t u v h l (and_right (t x) _ p) (and_right (u x) _ q))

  -- what a test of all says of an element
  pub every-mem : (t : A → Bool) (l : List A) {x : A} → every t l ≡ true → Memᴰ x l → t x ≡ true
  every-mem t [] e m = absurd (Memᴰ.not-nil m)
  every-mem t (y ∷ l) e m =
      ⊎_elim (λ q. ap t q ∙ and_left (t y) _ e) (λ r. every-mem t l (and_right (t y) _ e) r) (Memᴰ.cases_cons m)

  -- and the way back
  pub every-member : (t : A → Bool) (l : List A) → ((x : A) → Memᴰ x l → t x ≡ true) → every t l ≡ true
  every-member t [] h = refl
  every-member t (x ∷ l) h = and_both (t x) _ (h x (Memᴰ.head refl)) (every-member t l (λ y m. h y (Memᴰ.tail m)))

  -- what all pass, all that are kept pass
  pub every-keep : (t u : A → Bool) (l : List A) → every u l ≡ true → every u (keep t l) ≡ true
  every-keep t u [] e = refl
  every-keep t u (x ∷ l) e =
      let r = every-keep t u l (and_right (u x) _ e) in
      by-test (t x) (λ y. rw y (and_both (u x) _ (and_left (u x) _ e) r)) (λ n. rw n r)

  -- those that are kept pass the test
  pub every-kept : (t : A → Bool) (l : List A) → every t (keep t l) ≡ true
  every-kept t [] = refl
  every-kept t (x ∷ l) = by-test (t x) (λ y. rw y (and_both (t x) _ y (every-kept t l))) (λ n. rw n (every-kept t l))

  -- a test that all pass keeps all
  pub keep_all : (t : A → Bool) (l : List A) → every t l ≡ true → keep t l ≡ l
  keep_all t [] e = refl
  keep_all t (x ∷ l) e = rw (and_left (t x) _ e, keep_all t l (and_right (t x) _ e))

  -- a test that none passes keeps none
  pub keep-none : (t : A → Bool) (l : List A) → any t l ≡ false → keep t l ≡ []
  keep-none t [] e = refl
  keep-none t (x ∷ l) e = let n = or-none (t x) (any t l) e in rw (n.0, keep-none t l n.1)

  -- kept by two tests, one after the other
  -- two tests of every element at once
  pub every-both : (s t : A → Bool) (l : List A) → every (λ x. s x && t x) l ≡ (every s l && every t l)
  every-both s t [] = refl
  every-both s t (x ∷ l) =
      by-test (s x)
      (λ y. by-test (t x) (λ z. rw (y, z, every-both s t l)) (λ n. rw (y, n) (sym (and-false (every s l)))))
      (λ n. rw n)

  pub keep-both : (s t u : A → Bool) → ((x : A) → u x ≡ (s x && t x)) → (l : List A) → keep u l ≡ keep s (keep t l)
  keep-both s t u e [] = refl
  keep-both s t u e (x ∷ l) =
      by-test (t x)
      (λ y. by-test (s x) (λ z. rw (e x, y, z, keep-both s t u e l)) (λ z. rw (e x, y, z, keep-both s t u e l)))
      (λ y. by-test (s x) (λ z. rw (e x, y, z, keep-both s t u e l)) (λ z. rw (e x, y, z, keep-both s t u e l)))

  -- a test over two lists, one after the other
  pub every_append : (t : A → Bool) (l m : List A) → every t (l ++ m) ≡ (every t l && every t m)
  every_append t [] m = refl
  every_append t (x ∷ l) m = by-test (t x) (λ y. rw y (every_append t l m)) (λ n. rw n)

  pub any_append : (t : A → Bool) (l m : List A) → any t (l ++ m) ≡ (any t l || any t m)
  any_append t [] m = refl
  any_append t (x ∷ l) m = by-test (t x) (λ y. rw y) (λ n. rw n (any_append t l m))

  -- what all pass, all of a part pass
  pub every_take : (t : A → Bool) (n : ℕ) (l : List A) → every t l ≡ true → every t (take n l) ≡ true
  every_take t zero l e = refl
  every_take t (suc n) [] e = refl
  every_take t (suc n) (x ∷ l) e = and_both (t x) _ (and_left (t x) _ e) (every_take t n l (and_right (t x) _ e))

  pub every_drop : (t : A → Bool) (n : ℕ) (l : List A) → every t l ≡ true → every t (drop n l) ≡ true
  every_drop t zero l e = e
  every_drop t (suc n) [] e = e
  every_drop t (suc n) (x ∷ l) e = every_drop t n l (and_right (t x) _ e)

  -- one element over and over
  pub every-replicate : (t : A → Bool) (n : ℕ) (a : A) → t a ≡ true → every t (replicate n a) ≡ true
  every-replicate t zero a e = refl
  every-replicate t (suc n) a e = and_both (t a) _ e (every-replicate t n a e)

  -- a list is empty where its length is 0
  pub empty-length : (l : List A) → eqb (length l) 0 ≡ empty l
  empty-length [] = refl
  empty-length (x ∷ l) = ne_eqb (suc (length l)) 0 (λ e. omega arith)

  pub empty-none : (l : List A) → length l ≤ 0 → l ≡ []
  empty-none [] h = refl
  empty-none (x ∷ l) h = absurd (omega arith)

  -- by the test: it has no element, or one
  pub empty-is : (l : List A) → empty l ≡ true → l ≡ []
  empty-is [] e = refl
  empty-is (x ∷ l) e = cc

  pub empty-not : (l : List A) → empty l ≡ false → 1 ≤ length l
  empty-not [] e = absurd (true≢false e)
  empty-not (x ∷ l) e = omega arith

-- what 1 to n pass
pub every-down : (t : ℕ → Bool) (n : ℕ) → ((v : ℕ) → v < n → t (suc v) ≡ true) → every t (down n) ≡ true
unfolding down
every-down t zero h = refl
every-down t (suc n) h = and_both (t (suc n)) _ (h n (omega arith)) (every-down t n (λ v k. h v (omega arith)))

-- two tests that agree on 1 to n keep the same of them
pub keep-down : (t u : ℕ → Bool) (n : ℕ) → ((w : ℕ) → w ≤ n → t w ≡ u w) → keep t (down n) ≡ keep u (down n)
unfolding down
keep-down t u zero h = refl
keep-down t u (suc n) h = rw (h (suc n) (omega arith), keep-down t u n (λ w k. h w (omega arith)))

-- a test that nothing above m passes keeps of 1 to n what it keeps of 1 to m
pub keep-up : (t : ℕ → Bool) (m n : ℕ) → m ≤ n → ((v : ℕ) → m < v → t v ≡ false) → keep t (down n) ≡ keep t (down m)
unfolding down
keep-up t m zero h k = let e : m ≡ 0 = omega arith in rw e
keep-up t m (suc n) h k =
    by-test (eqb m (suc n)) (λ y. rw (eqb-true m (suc n) y))
    (λ f. let d = eqb-false m (suc n) f in rw (k (suc n) (omega arith)) (keep-up t m n (omega arith) k))

-- where p passes 1 to m, and t nothing above m that p passes, both keep of 1 to M what t keeps of 1 to m
pub keep_low : (t p : ℕ → Bool) (m M : ℕ) → m ≤ M → ((v : ℕ) → v < m → p (suc v) ≡ true) → ((v : ℕ) → m < v → p v ≡ true → t v ≡ false) → keep t (keep p (down M)) ≡ keep t (down m)
unfolding down
keep_low t p m M h low high =
    sym (keep-both t p both (λ w. refl) (down M))
    ∙ keep-up both m M h (λ v l. by-test (p v) (λ y. rw (high v l y)) (λ z. rw z (and-false (t v))))
    ∙ all m low
  where
    both : ℕ → Bool
    both w = t w && p w

    all : (n : ℕ) → ((v : ℕ) → v < n → p (suc v) ≡ true) → keep both (down n) ≡ keep t (down n)
    all zero f = refl
    all (suc n) f = rw (f n (omega arith), and-true (t (suc n)), all n (λ v k. f v (omega arith)))

-- tests and functions that agree on all of a list have the same values of what is kept
pub map-kept : {A B : Type 0} (f g : A → B) (t u p : A → Bool) (l : List A) → every p l ≡ true → ((x : A) → p x ≡ true → t x ≡ u x) → ((x : A) → p x ≡ true → f x ≡ g x)
    → map f (keep t l) ≡ map g (keep u l)
map-kept f g t u p [] e a b = refl
map-kept f g t u p (x ∷ l) e a b =
    let h = and_left (p x) _ e in
    let rest = map-kept f g t u p l (and_right (p x) _ e) a b in
    by-test (u x)
    (λ y. rw (a x h, y) (ap₂ ◌∷◌ (b x h) rest))
    (λ z. rw (a x h, z) rest)
