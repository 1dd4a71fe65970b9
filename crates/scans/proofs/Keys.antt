-- Keys of postings: their order is that of the postings, and their sums are those of the pairs.
use Rattle.lists.proofs.Prelude.{Bool, true, ◌&&◌, List, [], ◌∷◌, map, ◌≡◌, refl, sym, ap, ap₂, ◌∙◌, ℕ, ◌<◌, ◌≤◌, arith, leb, ltb, eqb, leb-true, ltb-true, ltb-false, eqb-true, eqb-false, lt-ltb, le-ltb, eq-eqb, ne_eqb, every, joined, by-test, and_left, and_right, and-past-two}
use Rattle.keyed.specs.Keys.{falls, all_fall, sum_of, sums}
use Rattle.postings.specs.declared.Posting.{Posting}
use Rattle.postings.specs.Order.{precedes, same_pair, ordered}
use Rattle.postings.specs.Sums.{sum}
use Rattle.postings.proofs.Order.{ordered-next}
use Rattle.postings.proofs.Sums.{sum-append}
use Rattle.partitions.specs.Formed.{list_rule}
use Rattle.kway.proofs.Stored.{rule}
use Rattle.scans.specs.Keys.{key_of, key_id, key_window, item_of, is_keyed}

-- ---- a key tells its identifier and its window

module _ (i w : ℕ) (h : w ≤ 65535) where
  pub key_below : key_of i w < 67108864
  key_below = omega arith

  pub key-of-window : key_window (key_of i w) ≡ w
  key-of-window = omega arith

  pub key-of-id : i ≤ 1023 → key_id (key_of i w) ≡ i
  key-of-id l = omega arith

pub key-whole : (k : ℕ) → k < 67108864 → key_of (key_id k) (key_window k) ≡ k
key-whole k h = omega arith

-- what a posting with a key of its own says
pub record Bounds (p : Posting) : Type 0 where
  pub id : p.id ≤ 1023
  pub window : p.window ≤ 65535

pub bounds : (p : Posting) → is_keyed p ≡ true → Bounds p
bounds p e = record { id = leb-true p.id 1023 (and_left _ _ e); window = leb-true p.window 65535 (and_right (leb p.id 1023) _ e) }

-- the key of i and w is that of j and v only where these are the same
key-same : (i w j v : ℕ) → i ≤ 1023 → w ≤ 65535 → j ≤ 1023 → v ≤ 65535 → eqb (key_of i w) (key_of j v) ≡ (eqb i j && eqb w v)
key-same i w j v a b c d =
    by-test (eqb i j)
    (λ y. let q = eqb-true i j y in
    by-test (eqb w v)
    (λ z. let r = eqb-true w v z in rw (y, z) (eq-eqb (key_of i w) (key_of j v) (omega arith)))
    (λ z. let r = eqb-false w v z in rw (y, z) (ne_eqb (key_of i w) (key_of j v) (λ e. r (omega arith)))))
    (λ y. let q = eqb-false i j y in rw y (ne_eqb (key_of i w) (key_of j v) (λ e. q (omega arith))))

-- one pair has one key
pub key-pair : (p q : Posting) → is_keyed p ≡ true → is_keyed q ≡ true → eqb (key_of p.id p.window) (key_of q.id q.window) ≡ same_pair p q
key-pair p q a b =
    let s = bounds p a in
    let t = bounds q b in
    key-same p.id p.window q.id q.window s.id s.window t.id t.window

-- the greater key stands before
pub key-precedes : (p q : Posting) → is_keyed p ≡ true → is_keyed q ≡ true → ltb (key_of q.id q.window) (key_of p.id p.window) ≡ precedes p q
key-precedes p q a b =
    let s = bounds p a in
    let t = bounds q b in
    by-test (ltb p.id q.id)
    (λ y. let l = ltb-true p.id q.id y in rw y (lt-ltb (key_of q.id q.window) (key_of p.id p.window) (omega arith)))
    (λ n. let m = ltb-false p.id q.id n in
    by-test (eqb p.id q.id)
    (λ y. let l = eqb-true p.id q.id y in
    by-test (ltb q.window p.window)
    (λ z. let r = ltb-true q.window p.window z in rw (n, y, z) (lt-ltb (key_of q.id q.window) (key_of p.id p.window) (omega arith)))
    (λ z. let r = ltb-false q.window p.window z in rw (n, y, z) (le-ltb (key_of q.id q.window) (key_of p.id p.window) (omega arith))))
    (λ y. let l : p.id ≡ q.id → ⊥ = eqb-false p.id q.id y in rw (n, y) (le-ltb (key_of q.id q.window) (key_of p.id p.window) (omega arith))))

-- ---- lists fall where they keep the rule of lists

-- a list falls where it keeps the rule and its first key is below the bound
falls-next : (m : ℕ) (p : Posting) (l : List Posting) → every is_keyed (p ∷ l) ≡ true → falls m (map item_of (p ∷ l)) ≡ (ltb (key_of p.id p.window) m && list_rule (p ∷ l))
unfolding list_rule
falls-next m p [] k = refl
falls-next m p (q ∷ l) k =
    let a = and_left (is_keyed p) _ k in
    let r = and_right (is_keyed p) _ k in
    rw (falls-next (key_of p.id p.window) q l r, key-precedes p q a (and_left (is_keyed q) _ r), ordered-next p q l)
    (ap (λ (t : Bool). ltb (key_of p.id p.window) m && t) (and-past-two (rule p) (precedes p q) (ordered (q ∷ l)) (every rule (q ∷ l))))

pub falls-rule : (l : List Posting) → every is_keyed l ≡ true → falls 67108864 (map item_of l) ≡ list_rule l
unfolding list_rule
falls-rule [] k = refl
falls-rule (p ∷ l) k =
    let b = bounds p (and_left (is_keyed p) _ k) in
    falls-next 67108864 p l k ∙ rw (lt-ltb (key_of p.id p.window) 67108864 (omega (arith, b.window)))

pub lists-rule : (ls : List (List Posting)) → every (every is_keyed) ls ≡ true → all_fall 67108864 (map (map item_of) ls) ≡ every list_rule ls
lists-rule [] k = refl
lists-rule (l ∷ ls) k = ap₂ ◌&&◌ (falls-rule l (and_left (every is_keyed l) _ k)) (lists-rule ls (and_right (every is_keyed l) _ k))

-- ---- sums by key are sums of pairs

module _ (i w : ℕ) (a : i ≤ 1023) (b : w ≤ 65535) where
  pub sum-keyed : (l : List Posting) → every is_keyed l ≡ true → sum_of (key_of i w) (map item_of l) ≡ sum l i w
  sum-keyed [] k = refl
  sum-keyed (p ∷ l) k =
      let s = bounds p (and_left (is_keyed p) _ k) in
      rw (key-same p.id p.window i w s.id s.window a b, sum-keyed l (and_right (is_keyed p) _ k))

  pub sums-keyed : (ls : List (List Posting)) → every (every is_keyed) ls ≡ true → sums (key_of i w) (map (map item_of) ls) ≡ sum (joined ls) i w
  sums-keyed [] k = refl
  sums-keyed (l ∷ ls) k =
      rw (sum-keyed l (and_left (every is_keyed l) _ k), sums-keyed ls (and_right (every is_keyed l) _ k)) (sym (sum-append i w l (joined ls)))
