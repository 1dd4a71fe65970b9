-- Numbers in a row, and lists that are told by the numbers of their places.
use mathlib.Core.Bool.{Bool, true, false, ◌&&◌, ◌||◌}
use mathlib.Core.List.{List, [], ◌∷◌, ◌++◌, map, map-append, append_assoc, append-nil}
use mathlib.Core.Path.{◌≡◌, refl, sym, ap, ap₂, ◌∙◌}
use Prim.Native.Nat.{ℕ, zero, suc, ◌+◌, ◌*◌, ◌<◌, ◌≤◌}
use native.Mathlib.Nat.{add-zero, add-suc, suc-add, zero-add}
use native.Mathlib.Omega.{arith}
use lib.Dec.{eqb, ltb}
use lib.ListN.{length, get_or, take, drop, length-append, length-map, get_or-append}
use lib.Seq.{get_or-append-add, take_at, drop_at}
use borrow.Author.Tests.{ltb-true, ltb-false, eqb-true, eqb-false, ne_eqb}
use Rattle.lists.specs.Lists.{keep, any, every, total_by, joined, elem, different, down, rising, up_to}
use Rattle.lists.proofs.Bools.{by-test, and_left, and_right, and_both, or_right}
use Rattle.lists.proofs.Tests.{keep_append}

-- Rising -----------------------------------------------------------------------------------------------------------

-- a row has as many numbers as told
pub length-rising : (n k : ℕ) → length (rising n k) ≡ k
unfolding rising
length-rising n zero = refl
length-rising n (suc k) = ap suc (length-rising (suc n) k)

-- a test that all numbers from n on, as many as told, pass
pub every-rising : (t : ℕ → Bool) (n k : ℕ) → ((j : ℕ) → n ≤ j → j < n + k → t j ≡ true) → every t (rising n k) ≡ true
unfolding rising
every-rising t n zero h = refl
every-rising t n (suc k) h =
    and_both (t n) _ (h n (omega arith) (omega arith)) (every-rising t (suc n) k (λ j a b. h j (omega arith) (omega arith)))

-- two functions that are equal over the row have one sum
pub total-rising : (f g : ℕ → ℕ) (n k : ℕ) → ((j : ℕ) → n ≤ j → j < n + k → f j ≡ g j) → total_by f (rising n k) ≡ total_by g (rising n k)
unfolding rising
total-rising f g n zero h = refl
total-rising f g n (suc k) h = ap₂ ◌+◌ (h n (omega arith) (omega arith)) (total-rising f g (suc n) k (λ j a b. h j (omega arith) (omega arith)))

-- two tests that agree over the row keep the same of it
pub keep-rising : (t u : ℕ → Bool) (n k : ℕ) → ((b : ℕ) → n ≤ b → b < n + k → t b ≡ u b) → keep t (rising n k) ≡ keep u (rising n k)
unfolding rising
keep-rising t u n zero h = refl
keep-rising t u n (suc k) h = rw (h n (omega arith) (omega arith), keep-rising t u (suc n) k (λ b x y. h b (omega arith) (omega arith)))

-- every number of the row is in it
pub elem-rising : (n k j : ℕ) → n ≤ j → j < n + k → elem j (rising n k) ≡ true
unfolding rising
elem-rising n zero j a b = absurd (omega arith)
elem-rising n (suc k) j a b =
    by-test (eqb n j) (λ y. rw y)
    (λ f. or_right (eqb n j) _ (by-test (ltb n j)
    (λ l. elem-rising (suc n) k j (omega (arith, ltb-true n j l)) (omega arith))
    (λ l. absurd (eqb-false n j f (omega (arith, ltb-false n j l))))))

-- and so is every number of 1 to n among those from n down
pub elem-down : (n k : ℕ) → 1 ≤ k → k ≤ n → elem k (down n) ≡ true
unfolding down
elem-down zero k a b = absurd (omega arith)
elem-down (suc n) k a b =
    by-test (eqb (suc n) k) (λ y. rw y)
    (λ f. let d = eqb-false (suc n) k f in or_right (eqb (suc n) k) _ (elem-down n k a (omega arith)))

-- no number below the first is in the row
pub rising_none : (n k j : ℕ) → j < n → elem j (rising n k) ≡ false
unfolding rising
rising_none n zero j h = refl
rising_none n (suc k) j h = rw (ne_eqb n j (λ e. omega arith)) (rising_none (suc n) k j (omega arith))

-- none stands twice
pub different-rising : (n k : ℕ) → different (rising n k) ≡ true
unfolding rising
different-rising n zero = refl
different-rising n (suc k) = rw (rising_none (suc n) k n (omega arith)) (different-rising (suc n) k)

-- By place ---------------------------------------------------------------------------------------------------------

-- what g gives of one number of the row
pub rising-at : {B : Type 0} (g : ℕ → B) (n k j : ℕ) (d : B) → j < k → get_or (map g (rising n k)) j d ≡ g (n + j)
unfolding rising
rising-at g n zero j d h = absurd (omega arith)
rising-at g n (suc k) zero d h = ap g (sym (add-zero n))
rising-at g n (suc k) (suc j) d h = rising-at g (suc n) k j d (omega arith) ∙ ap g (suc-add n j ∙ sym (add-suc n j))

-- and of the row from 0
pub up_to-at : {B : Type 0} (g : ℕ → B) (k j : ℕ) (d : B) → j < k → get_or (map g (up_to k)) j d ≡ g j
up_to-at g k j d h = rising-at g 0 k j d h ∙ ap g (zero-add j)

module _ {A B : Type 0} where
  -- what g gives of the places of a list, where it is what f gives of the elements
  pub map-rising : (g : ℕ → B) (f : A → B) (l : List A) (d : A) (n : ℕ) → ((j : ℕ) → j < length l → g (n + j) ≡ f (get_or l j d))
      → map g (rising n (length l)) ≡ map f l
  unfolding rising
  map-rising g f [] d n h = refl
  map-rising g f (x ∷ l) d n h =
      ap₂ (λ (b : B) (r : List B). b ∷ r) (ap g (sym (add-zero n)) ∙ h zero (omega arith))
      (map-rising g f l d (suc n) (λ j a. ap g (suc-add n j ∙ sym (add-suc n j)) ∙ h (suc j) (omega arith)))

  -- the same for the row from 0, as long as the list
  pub map-up_to : (g : ℕ → B) (f : A → B) (l : List A) (d : A) (k : ℕ) → length l ≡ k → ((j : ℕ) → j < k → g j ≡ f (get_or l j d)) → map g (up_to k) ≡ map f l
  map-up_to g f l d k e h =
      rw (← e) (map-rising g f l d 0 (λ j a. ap g (zero-add j) ∙ h j (omega arith)))

  -- a part of what f gives is what f gives of the part
  pub map-take : (f : A → B) (n : ℕ) (l : List A) → map f (take n l) ≡ take n (map f l)
  map-take f zero l = refl
  map-take f (suc n) [] = refl
  map-take f (suc n) (x ∷ l) = ap (λ (r : List B). f x ∷ r) (map-take f n l)

  pub map-drop : (f : A → B) (n : ℕ) (l : List A) → map f (drop n l) ≡ drop n (map f l)
  map-drop f zero l = refl
  map-drop f (suc n) [] = refl
  map-drop f (suc n) (x ∷ l) = map-drop f n l

  -- two functions that are equal on what passes a test, on a list that passes it
  pub map-where : (t : A → Bool) (f g : A → B) → ((x : A) → t x ≡ true → f x ≡ g x) → (l : List A) → every t l ≡ true → map f l ≡ map g l
  map-where t f g h [] e = refl
  map-where t f g h (x ∷ l) e =
      ap₂ (λ (b : B) (r : List B). b ∷ r) (h x (and_left (t x) _ e)) (map-where t f g h l (and_right (t x) _ e))

  -- the middle of a list of three parts, f taken over all, whatever follows
  pub map-middle : (f : A → B) (a m z : List A) (rest : List B) → take (length m) (drop (length a) (map f (a ++ (m ++ z)) ++ rest)) ≡ map f m
  map-middle f a m z rest =
      rw (map-append f a (m ++ z), map-append f m z, append_assoc (map f a) (map f m ++ map f z) rest, append_assoc (map f m) (map f z) rest)
      (ap (λ (r : List B). take (length m) r) (drop_at (map f a) (map f m ++ (map f z ++ rest)) (length a) (length-map a f))
      ∙ take_at (map f m) (map f z ++ rest) (length m) (length-map m f))

  -- a test after a function is a test of what the function gives
  pub every_map : (t : B → Bool) (f : A → B) (l : List A) → every t (map f l) ≡ every (λ x. t (f x)) l
  every_map t f [] = refl
  every_map t f (x ∷ l) = ap (λ (b : Bool). t (f x) && b) (every_map t f l)

  pub any-map : (t : B → Bool) (f : A → B) (l : List A) → any t (map f l) ≡ any (λ x. t (f x)) l
  any-map t f [] = refl
  any-map t f (x ∷ l) = ap (λ (b : Bool). t (f x) || b) (any-map t f l)

  pub keep-map : (t : B → Bool) (f : A → B) (l : List A) → keep t (map f l) ≡ map f (keep (λ x. t (f x)) l)
  keep-map t f [] = refl
  keep-map t f (x ∷ l) = by-test (t (f x)) (λ y. rw (y, keep-map t f l)) (λ n. rw (n, keep-map t f l))

  -- and so is a sum
  pub total-map : (t : B → ℕ) (f : A → B) (l : List A) → total_by t (map f l) ≡ total_by (λ x. t (f x)) l
  total-map t f [] = refl
  total-map t f (x ∷ l) = ap (λ (n : ℕ). t (f x) + n) (total-map t f l)

  -- Lists one after another ------------------------------------------------------------------------------------------

  -- lists of one length: how long they are together
  pub length-joined : (e : A → List B) (w : ℕ) → ((x : A) → length (e x) ≡ w) → (l : List A) → length (joined (map e l)) ≡ w * length l
  length-joined e w h [] = omega arith
  length-joined e w h (x ∷ l) = omega (arith, length-append (e x) (joined (map e l)), h x, length-joined e w h l)

  -- and what stands at place r of the one at j
  pub joined_at : (e : A → List B) (w : ℕ) → ((x : A) → length (e x) ≡ w) → (l : List A) (rest : List B) (dx : A) (d : B) (j r : ℕ) → j < length l → r < w
      → get_or (joined (map e l) ++ rest) (w * j + r) d ≡ get_or (e (get_or l j dx)) r d
  joined_at e w h [] rest dx d j r a b = absurd (omega arith)
  joined_at e w h (x ∷ l) rest dx d zero r a b =
      let z : w * 0 + r ≡ r = omega arith in
      rw (z, append_assoc (e x) (joined (map e l)) rest) (get_or-append (e x) _ d r (omega (arith, h x)))
  joined_at e w h (x ∷ l) rest dx d (suc j) r a b =
      let z : w * suc j + r ≡ length (e x) + (w * j + r) = omega (arith, h x) in
      rw (z, append_assoc (e x) (joined (map e l)) rest)
      (get_or-append-add (e x) (joined (map e l) ++ rest) (w * j + r) d ∙ joined_at e w h l rest dx d j r (omega arith) b)

  -- how long lists are together
  pub length-all : (e : A → List B) (l : List A) → length (joined (map e l)) ≡ total_by (λ x. length (e x)) l
  length-all e [] = refl
  length-all e (x ∷ l) = omega (arith, length-append (e x) (joined (map e l)), length-all e l)

module _ {A : Type 0} where
  -- a sum with one summand more
  pub total-more : (f : A → ℕ) (l : List A) (x : A) → total_by f (l ++ (x ∷ [])) ≡ total_by f l + f x
  total-more f [] x = omega arith
  total-more f (y ∷ l) x = let r = total-more f l x in omega arith

  -- what is kept of lists one after another is what is kept of each
  pub keep-joined : {B : Type 0} (t : A → Bool) (e : B → List A) (l : List B) → keep t (joined (map e l)) ≡ joined (map (λ x. keep t (e x)) l)
  keep-joined t e [] = refl
  keep-joined t e (x ∷ l) = keep_append t (e x) (joined (map e l)) ∙ ap (λ (r : List A). keep t (e x) ++ r) (keep-joined t e l)

  -- where every list is empty
  pub joined-none : (e : ℕ → List A) (n k : ℕ) → ((j : ℕ) → n ≤ j → j < n + k → e j ≡ []) → joined (map e (rising n k)) ≡ []
  unfolding rising
  joined-none e n zero h = refl
  joined-none e n (suc k) h = rw (h n (omega arith) (omega arith)) (joined-none e (suc n) k (λ j a b. h j (omega arith) (omega arith)))

  -- where every list but the one at i is empty
  pub joined-one : (e : ℕ → List A) (n k i : ℕ) → n ≤ i → i < n + k → ((j : ℕ) → n ≤ j → j < n + k → (j ≡ i → ⊥) → e j ≡ []) → joined (map e (rising n k)) ≡ e i
  unfolding rising
  joined-one e n zero i a b h = absurd (omega arith)
  joined-one e n (suc k) i a b h =
      by-test (eqb n i)
      (λ y. let q : n ≡ i = eqb-true n i y in
      ap₂ (λ (r s : List A). r ++ s) (ap e q) (joined-none e (suc n) k (λ j c d. h j (omega arith) (omega arith) (λ z. omega arith))) ∙ append-nil (e i))
      (λ f. let q : n ≡ i → ⊥ = eqb-false n i f in
      rw (h n (omega arith) (omega arith) q)
      (joined-one e (suc n) k i (omega arith) (omega arith) (λ j c d z. h j (omega arith) (omega arith) z)))
