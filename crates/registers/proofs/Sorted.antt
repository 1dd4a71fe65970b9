-- Laws of the order of entries, and that identifiers whose places are in ascending order differ.
use Rattle.lists.proofs.Prelude.{Bool, true, false, or-false, List, [], ◌∷◌, ◌≡◌, refl, sym, ap, ◌∙◌, ⊎_elim, ℕ, zero, suc, ◌+◌, ◌-◌, ◌<◌, ◌≤◌, eq-or-lt_of_le, arith, ltb, leb, eqb, length, get_or, take, drop, set, replicate, length-append, length-drop, List·getD-append, drop-cons, drop_at, get_or-take, get_or-drop, length-take-le, take_all, ext_get_or, leb-true, ltb-true, ltb-false, lt-ltb, le-ltb, eqb-true, eq-eqb, ne_eqb, any, same, by-test, and_left, and_right, never, same_true, every-at, List·getD-eq-default}
use Rattle.words.specs.Words.{words, Below}
use Rattle.words.proofs.Views.{length-words}
use Rattle.identifiers.specs.Names.{Name, distinct}
use Rattle.identifiers.specs.Register.{entries, size, name_of, entry_rule, names}
use Rattle.identifiers.specs.Formed.{formed}
use Rattle.registers.specs.Order.{lower, key, before, Inverse, Ascending}
use Rattle.identifiers.proofs.Names.{distinct-on}
use Rattle.identifiers.proofs.Entries.{length-entry, name-inside, name-entry, formed-rules}

-- ---- the order

pub lower-none : (xs : List ℕ) → lower xs xs ≡ false
unfolding lower
lower-none [] = refl
lower-none (x ∷ xs) = rw (le-ltb x x (omega arith), eq-eqb x x refl) (lower-none xs)

pub lower-on : (xs ys zs : List ℕ) → lower xs ys ≡ true → lower ys zs ≡ true → lower xs zs ≡ true
unfolding lower
lower-on [] ys zs p q = cc
lower-on (x ∷ xs) [] zs p q = cc
lower-on (x ∷ xs) (y ∷ ys) [] p q = cc
lower-on (x ∷ xs) (y ∷ ys) (z ∷ zs) p q =
    by-test (ltb x y)
    (λ a. let l = ltb-true x y a in
    by-test (ltb y z)
    (λ b. let m = ltb-true y z b in rw (lt-ltb x z (omega arith)))
    (λ b. let m = eqb-true y z (and_left (eqb y z) _ (rw b at q)) in rw (lt-ltb x z (omega arith))))
    (λ a. let e = rw a at p in
    let l : x ≡ y = eqb-true x y (and_left (eqb x y) _ e) in
    by-test (ltb y z)
    (λ b. let m = ltb-true y z b in rw (lt-ltb x z (omega arith)))
    (λ b. let f = rw b at q in
    let m : y ≡ z = eqb-true y z (and_left (eqb y z) _ f) in
    rw (le-ltb x z (omega arith), eq-eqb x z (l ∙ m)) (lower-on xs ys zs (and_right (eqb x y) _ e) (and_right (eqb y z) _ f))))

module _ (a b : List ℕ) (c : ℕ) (h : c < length a) (k : c < length b) where
  pub lower-same : get_or a c 0 ≡ get_or b c 0 → lower (drop c a) (drop c b) ≡ lower (drop (suc c) a) (drop (suc c) b)
  unfolding lower
  lower-same e = rw (drop-cons a c 0 h, drop-cons b c 0 k, le-ltb (get_or a c 0) (get_or b c 0) (omega arith), eq-eqb (get_or a c 0) (get_or b c 0) e)

  pub lower-apart : (get_or a c 0 ≡ get_or b c 0 → ⊥) → lower (drop c a) (drop c b) ≡ ltb (get_or a c 0) (get_or b c 0)
  unfolding lower
  lower-apart n = rw (drop-cons a c 0 h, drop-cons b c 0 k, ne_eqb (get_or a c 0) (get_or b c 0) n, or-false (ltb (get_or a c 0) (get_or b c 0)))

pub lower_last : (p q : ℕ) → lower (p ∷ []) (q ∷ []) ≡ ltb p q
unfolding lower
lower_last p q = by-test (eqb p q) (λ y. rw (y, or-false (ltb p q))) (λ n. rw (n, or-false (ltb p q)))

-- the numbers of an entry's key
module _ (e : List ℕ) (h : length e ≡ 65) where
  sixteen : length (words e) ≡ 16
  sixteen = omega (arith, length-words e)

  pub key-length : length (key e) ≡ 17
  key-length = omega (arith, sixteen, length-append (words e) (get_or e 64 0 ∷ []))

  pub key-word : (c : ℕ) → c < 16 → get_or (key e) c 0 ≡ get_or (words e) c 0
  key-word c k = List·getD-append (words e) (get_or e 64 0 ∷ []) 0 c (omega (arith, sixteen))

  pub key-last : drop 16 (key e) ≡ get_or e 64 0 ∷ []
  key-last = drop_at (words e) (get_or e 64 0 ∷ []) 16 sixteen

-- ---- arrays of places

pub below_set : (n : ℕ) (l : List ℕ) (i v : ℕ) → Below n l → v < n → Below n (set l i v)
below_set n [] i v b s k = b k
below_set n (x ∷ l) zero v b s zero = s
below_set n (x ∷ l) zero v b s (suc k) = b (suc k)
below_set n (x ∷ l) (suc i) v b s zero = b zero
below_set n (x ∷ l) (suc i) v b s (suc k) = below_set n l i v (λ j. b (suc j)) s k

-- ---- an entry is told by its identifier

-- the byte at a place of an entry whose identifier is n
byte_from : List ℕ → ℕ → ℕ
byte_from n zero = length n
byte_from n (suc j) = get_or n j 0

module _ (e : List ℕ) (h : length e ≡ 65) (rule : entry_rule e ≡ true) where
  fits : size e ≤ 64
  fits = leb-true (size e) 64 (and_left (leb (size e) 64) _ rule)

  tail : length (drop 1 e) ≡ 64
  tail = omega (arith, length-drop 1 e)

  name-length : length (name_of e) ≡ size e
  name-length = length-take-le (size e) (drop 1 e) (omega (arith, tail, fits))

  byte_at : (k : ℕ) → k < 65 → get_or e k 0 ≡ byte_from (name_of e) k
  unfolding byte_from
  byte_at zero l = sym name-length
  byte_at (suc j) l =
      by-test (ltb j (size e))
      (λ y. sym (get_or-take (size e) (drop 1 e) j 0 (ltb-true j (size e) y) ∙ get_or-drop 1 e j 0 ∙ ap (λ (x : ℕ). get_or e x 0) (omega arith)))
      (λ n. let m = ltb-false j (size e) n in
      let z = every-at (λ b. eqb b 0) (drop (1 + size e) e) 0 (and_right (leb (size e) 64) _ rule) (j - size e) (omega (arith, length-drop (1 + size e) e)) in
      let q : 1 + size e + (j - size e) ≡ suc j = omega arith in
      let v : get_or e (suc j) 0 ≡ 0 = rw q at (sym (get_or-drop (1 + size e) e (j - size e) 0) ∙ eqb-true _ 0 z) in
      v ∙ sym (List·getD-eq-default (name_of e) 0 {n = j} (omega (arith, name-length))))

same-entry : (e g : List ℕ) → length e ≡ 65 → length g ≡ 65 → entry_rule e ≡ true → entry_rule g ≡ true → name_of e ≡ name_of g → e ≡ g
same-entry e g a b p q n =
    ext_get_or 0 e g (a ∙ sym b) (λ k h. byte_at e a p k (omega arith) ∙ ap (λ (x : List ℕ). byte_from x k) n ∙ sym (byte_at g b q k (omega arith)))

-- ---- identifiers in ascending order differ

any_none : {A : Type 0} (t : A → Bool) (l : List A) (d : A) → ((j : ℕ) → j < length l → t (get_or l j d) ≡ false) → any t l ≡ false
any_none t [] d h = refl
any_none t (x ∷ l) d h = rw (h 0 (omega arith)) (any_none t l d (λ j k. h (suc j) (omega arith)))

module _ (r : List ℕ) (f : formed r ≡ true) (order ranks : List ℕ) (below : Below (length (names r)) ranks) (inv : Inverse order ranks (length (names r))) (asc : Ascending r order (length (names r))) where
  climb : (x y : ℕ) → x < y → y < length (names r) → before r (get_or order x 0) (get_or order y 0) ≡ true
  climb x zero h l = absurd (omega arith)
  climb x (suc y) h l =
      ⊎_elim (λ q. rw q (asc y l)) (λ q. lower-on _ _ _ (climb x y q (omega arith)) (asc y l)) (eq-or-lt_of_le {n = x} {m = y} (omega arith))

  entries-same : (p q : ℕ) → p < length (names r) → q < length (names r) → get_or (names r) p [] ≡ get_or (names r) q [] → get_or (entries r) p [] ≡ get_or (entries r) q []
  entries-same p q a b e =
      let i = name-inside r f p a in
      let j = name-inside r f q b in
      same-entry (get_or (entries r) p []) (get_or (entries r) q []) (length-entry r p i) (length-entry r q j)
      (every-at entry_rule (entries r) [] (formed-rules r f) p i) (every-at entry_rule (entries r) [] (formed-rules r f) q j)
      (sym (name-entry r f p a) ∙ e ∙ name-entry r f q b)

  -- one that is before another is not the same
  before-apart : (p q : ℕ) → p < length (names r) → q < length (names r) → get_or ranks p 0 < get_or ranks q 0 → get_or (names r) p [] ≡ get_or (names r) q [] → ⊥
  before-apart p q a b h e =
      let t : before r p q ≡ true = rw (inv p a, inv q b) at (climb (get_or ranks p 0) (get_or ranks q 0) h (below q)) in
      let u : before r p q ≡ false = rw (entries-same p q a b e) (lower-none _) in
      let z : false ≡ true = sym u ∙ t in
      never z

  apart : (p q : ℕ) → p < length (names r) → q < length (names r) → (p ≡ q → ⊥) → same (get_or (names r) p []) (get_or (names r) q []) ≡ false
  apart p q a b n =
      by-test (same (get_or (names r) p []) (get_or (names r) q []))
      (λ y. let e = same_true _ _ y in
      by-test (ltb (get_or ranks p 0) (get_or ranks q 0))
      (λ l. absurd (before-apart p q a b (ltb-true _ _ l) e))
      (λ g. by-test (ltb (get_or ranks q 0) (get_or ranks p 0))
      (λ l. absurd (before-apart q p b a (ltb-true _ _ l) (sym e)))
      (λ k. let s : get_or ranks p 0 ≡ get_or ranks q 0 = omega (arith, ltb-false (get_or ranks p 0) (get_or ranks q 0) g, ltb-false (get_or ranks q 0) (get_or ranks p 0) k) in
      absurd (n (sym (inv p a) ∙ ap (λ (x : ℕ). get_or order x 0) s ∙ inv q b)))))
      (λ m. m)

  upto : (i : ℕ) → i ≤ length (names r) → distinct (take i (names r)) ≡ true
  upto zero h = refl
  upto (suc i) h =
      distinct-on (names r) i h (upto i (omega arith))
      (any_none (λ m. same m (get_or (names r) i [])) (take i (names r)) []
      (λ j k. let l = length-take-le i (names r) (omega arith) in rw (get_or-take i (names r) j [] (omega arith)) (apart j i (omega arith) h (λ e. omega arith))))

  pub in_order : distinct (names r) ≡ true
  in_order = rw (take_all (length (names r)) (names r) (omega arith)) at (upto (length (names r)) (omega arith))

-- ---- where the sort begins

pub zeros-below : (m n : ℕ) → 0 < n → Below n (replicate m 0)
zeros-below zero n h k = h
zeros-below (suc m) n h zero = h
zeros-below (suc m) n h (suc k) = zeros-below m n h k

pub none_differ : (ms : List Name) → length ms ≡ 0 → distinct ms ≡ true
none_differ [] e = refl
none_differ (m ∷ ms) e = absurd (omega arith)
