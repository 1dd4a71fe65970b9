-- Totals fit: under each identifier there are at most 65,535 windows.
use Prim.Native.Nat.{min, max}
use Rattle.lists.proofs.Prelude.{ltb-true, ltb-false, Bool, true, false, not, cond, List, [], ◌∷◌, map, ◌⊎◌, inl, inr, ⊎_elim, ◌≡◌, refl, sym, ◌∙◌, ℕ, zero, suc, ◌+◌, ◌<◌, ◌≤◌, add-one, arith, eqb, leb, ltb, ℤ, length, get_or, set, replicate, length-set, get_or-set_same, get_or-set_other, leb-true, eqb-true, eqb-false, eq-eqb, ne_eqb, AllOf, keep, every, by-test, and_left, and_right, length-keep, get_or-same}
use Rattle.keyed.specs.Keys.{topmost_from, head_fine, heads_fine}
use Rattle.words.specs.Words.{Below}
use Rattle.postings.specs.declared.Posting.{Posting}
use Rattle.postings.specs.Merge.{is_zero}
use Rattle.scans.specs.Keys.{key_of, key_id, key_window, item_of, is_keyed, posting_of}
use Rattle.kway.specs.Parts.{parts}
use Rattle.scans.specs.Heads.{Kept, views}
use Rattle.scans.proofs.Keys.{bounds, key-of-window}
use Rattle.inputs.specs.declared.Totals.{Totals}
use Rattle.inputs.specs.Judging.{Small, zeros, risen, totals_more, counts_more}
use Rattle.inputs.specs.Ahead.{posting_lists}
use Rattle.inputs.proofs.Views.{items-lists, lists-keyed}

-- is a number of postings not 0
abbrev some : ℕ → Bool
some n = not (eqb n 0)

-- totals of keys from `bound` up: under each identifier no more postings than windows that were passed
pub record Room (t : Totals) (ns : List ℕ) (bound : ℕ) : Type 0 where
  pub long : length ns ≡ 1024
  pub pairs : t.pairs + bound ≤ 67108864
  pub postings : t.postings ≤ t.pairs
  pub terms : t.terms ≡ length (keep some ns)
  pub counts : (i : ℕ) → i ≤ 1023 → (get_or ns i 0 ≡ 0) ⊎ (get_or ns i 0 + bound ≤ key_of i 0 + 65536)

-- so they fit
pub room_small : (t : Totals) (ns : List ℕ) (bound : ℕ) → Room t ns bound → Small t
room_small t ns bound r =
    record { pairs = omega (arith, r.pairs); postings = r.postings; terms = omega (arith, r.terms, r.long, length-keep some ns) }

-- at first there is room
pub room-none : Room zeros (replicate 1024 0) 67108864
room-none = record { long = refl; pairs = omega arith; postings = omega arith; terms = sym (none 1024); counts = λ i h. inl (get_or-same {A = ℕ} 1024 i 0) }
  where
    none : (n : ℕ) → length (keep some (replicate n 0)) ≡ 0
    none zero = refl
    none (suc n) = none n

-- one more under an identifier
count_set : (l : List ℕ) (i : ℕ) → i < length l → length (keep some (set l i (get_or l i 0 + 1))) ≡ risen (length (keep some l)) (get_or l i 0)
count_set [] i h = absurd (omega arith)
count_set (x ∷ l) zero h =
    let a : eqb (x + 1) 0 ≡ false = ne_eqb (x + 1) 0 (λ e. omega arith) in
    by-test (eqb x 0) (λ y. rw (a, y) (sym (add-one (length (keep some l))))) (λ n. rw (a, n))
count_set (x ∷ l) (suc i) h =
    let r = count_set l i (omega arith) in
    by-test (eqb x 0) (λ y. rw (y, r))
    (λ n. rw (n, r) (up (eqb (get_or l i 0) 0) (length (keep some l))))
  where
    up : (t : Bool) (n : ℕ) → suc (cond t (n + 1) n) ≡ cond t (suc n + 1) (suc n)
    up true n = omega arith
    up false n = refl

-- the window of the greatest key at any head is not 0, where that head is well formed
top-window : (k t : ℕ) (ls : List (List Posting)) → every (every is_keyed) ls ≡ true → topmost_from t (map (map item_of) ls) ≡ suc k → heads_fine k (map (map item_of) ls) ≡ true
    → (t ≡ suc k) ⊎ (1 ≤ key_window k)
top-window k t [] e top f = inl top
top-window k t ([] ∷ ls) e top f = ⊎_elim (λ q. inl (omega arith)) (λ h. inr h) (top-window k (max t 0) ls e top f)
top-window k t ((p ∷ l) ∷ ls) e top f =
    ⊎_elim here (λ h. inr h)
    (top-window k (max t (suc (key_of p.id p.window))) ls (and_right (every is_keyed (p ∷ l)) _ e) top (and_right (head_fine k (map item_of (p ∷ l))) _ f))
  where
    here : max t (suc (key_of p.id p.window)) ≡ suc k → (t ≡ suc k) ⊎ (1 ≤ key_window k)
    here q =
        by-test (ltb t (suc (key_of p.id p.window)))
        (λ b. let lt = ltb-true t (suc (key_of p.id p.window)) b in
        let s : key_of p.id p.window ≡ k = omega arith in
        let g : (item_of p).fine ≡ true = rw (eq-eqb (key_of p.id p.window) k s) at (and_left (head_fine k (map item_of (p ∷ l))) _ f) in
        let w : 1 ≤ p.window = leb-true 1 p.window (and_left (leb 1 p.window) _ g) in
        let c = key-of-window p.id p.window (bounds p (and_left (is_keyed p) _ (and_left (every is_keyed (p ∷ l)) _ e))).window in
        inr (rw (← s, c) w))
        (λ b. let le = ltb-false t (suc (key_of p.id p.window)) b in inl (omega arith))

key-window : (k : ℕ) (ls : List (List Posting)) → every (every is_keyed) ls ≡ true → topmost_from 0 (map (map item_of) ls) ≡ suc k → heads_fine k (map (map item_of) ls) ≡ true → 1 ≤ key_window k
key-window k ls e top f = ⊎_elim (λ q. absurd (omega arith)) (λ h. h) (top-window k 0 ls e top f)

-- the same of heads
pub window-top : (W : List ℕ) → Below 4294967296 W → (n : ℕ) (H : List ℕ) → AllOf (Kept W) (parts 10 n H) → (k : ℕ) → topmost_from 0 (views W n H) ≡ suc k → heads_fine k (views W n H) ≡ true → 1 ≤ key_window k
window-top W small n H kept k top fine =
    let e = items-lists W n H in
    key-window k (posting_lists W n H) (lists-keyed W small n H kept) (rw e at top) (rw e at fine)

module _ (t : Totals) (ns : List ℕ) (bound k : ℕ) (z : ℤ) (r : Room t ns bound) (low : k < bound) (window : 1 ≤ key_window k) where
  abbrev n : ℕ
  n = get_or ns (key_id k) 0

  -- there is room for one more
  pub room-here : n ≤ 65534
  room-here = ⊎_elim (λ e. omega arith) (λ h. omega (arith, r.pairs)) (r.counts (key_id k) (omega arith))

  abbrev p : Posting
  p = posting_of (record { key = k; sum = z })

  -- and then for the next
  pub room-more : Room (totals_more t n p) (counts_more ns p) k
  unfolding totals_more counts_more
  room-more = by-test (is_zero z) (λ y. rw y zero-sum) (λ n. rw n other-sum)
    where
      long : length ns ≡ 1024
      long = r.long

      zero-sum : Room (record { pairs = t.pairs + 1; postings = t.postings; terms = t.terms; lowest = t.lowest; highest = t.highest }) ns k
      zero-sum = record {
        long = long;
        pairs = omega (arith, r.pairs);
        postings = omega (arith, r.postings);
        terms = r.terms;
        counts = λ i h. ⊎_elim (λ e. inl e) (λ b. inr (omega arith)) (r.counts i h);
      }

      other : (i : ℕ) → i ≤ 1023 → (get_or (set ns (key_id k) (n + 1)) i 0 ≡ 0) ⊎ (get_or (set ns (key_id k) (n + 1)) i 0 + k ≤ key_of i 0 + 65536)
      other i h =
          by-test (eqb i (key_id k))
          (λ y. let e : i ≡ key_id k = eqb-true i (key_id k) y in
          rw (e, get_or-set_same ns (key_id k) (n + 1) 0 (omega arith))
          (inr (⊎_elim (λ q. omega (arith, r.pairs)) (λ b. omega (arith, r.pairs)) (r.counts (key_id k) (omega arith)))))
          (λ f. rw (get_or-set_other ns (key_id k) i (n + 1) 0 (eqb-false i (key_id k) f))
          (⊎_elim (λ q. inl q) (λ b. inr (omega arith)) (r.counts i h)))

      other-sum : Room (record { pairs = t.pairs + 1; postings = t.postings + 1; terms = risen t.terms n; lowest = min t.lowest p.window; highest = max t.highest p.window }) (set ns (key_id k) (n + 1)) k
      other-sum = record {
        long = length-set ns (key_id k) (n + 1) ∙ long;
        pairs = omega (arith, r.pairs);
        postings = omega (arith, r.postings);
        terms = rw r.terms (sym (count_set ns (key_id k) (omega arith)));
        counts = other;
      }
