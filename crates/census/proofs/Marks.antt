-- Marks set one by one, and how many windows are marked.
use Rattle.lists.proofs.Prelude.{Bool, true, false, cond, ◌&&◌, ◌||◌, not, or-false, or_comm, and-true, List, ◌≡◌, refl, sym, ◌∙◌, ℕ, ◌-◌, ◌≤◌, arith, eqb, leb, ℤ, length, eqb-true, eqb-false, eq-eqb, ne_eqb, leb-true, by-test, and_left, and_right, and_both, never}
use Rattle.postings.specs.declared.Stretch.{Stretch}
use Rattle.postings.specs.Sums.{is_above}
use Rattle.state.specs.Shown.{within, shows_in}
use Rattle.card.specs.Marks.{bit_of}
use Rattle.census.specs.Marks.{marked, MarkStep}

-- ---- clearing

-- ---- one window

module _ (t : Stretch) (o w : ℕ) (z : ℤ) (M : List ℕ) where
  -- one that is not to be marked
  pub step-none : (shows_in t o w && is_above z) ≡ false → MarkStep t o w z M 0 M
  step-none e = record {
    long = refl;
    marks = λ v s. by-test (eqb w v && is_above z)
        (λ y. let q : w ≡ v = eqb-true w v (and_left (eqb w v) _ y) in
        let s' : shows_in t o w ≡ true = rw q s in
        never (sym e ∙ and_both (shows_in t o w) _ s' (and_right (eqb w v) _ y)))
        (λ n. rw (n, or-false (marked t M v)));
    more = rw e;
  }

  -- the window lies in the stretch
  pub in-stretch : shows_in t o w ≡ true → (t.first ≤ w) × (w ≤ t.last)
  in-stretch s =
      let a = and_left (within t w) _ s in
      (leb-true _ _ (and_left (leb t.first w) _ a), leb-true _ _ (and_right (leb t.first w) _ a))

  -- one that is
  pub step-mark : shows_in t o w ≡ true → is_above z ≡ true → (M' : List ℕ) (r : ℕ) → length M' ≡ length M → ((k : ℕ) → bit_of 32 M' k ≡ (eqb (w - t.first) k || bit_of 32 M k))
      → r ≡ cond (bit_of 32 M (w - t.first)) 0 1 → MarkStep t o w z M r M'
  step-mark s a M' r long bits e = record {
    long = long;
    marks = λ v i. bits (v - t.first) ∙ rw (same v i, a, and-true (eqb w v)) (or_comm (eqb w v) (marked t M v));
    more = e ∙ rw (s, a) (turned (marked t M w));
  }
    where
      same : (v : ℕ) → shows_in t o v ≡ true → eqb (w - t.first) (v - t.first) ≡ eqb w v
      same v i =
          let p = in-stretch s in
          let l = and_left (within t v) _ i in
          let q : t.first ≤ v = leb-true _ _ (and_left (leb t.first v) _ l) in
          by-test (eqb w v)
          (λ y. let u = eqb-true w v y in rw y (eq-eqb (w - t.first) (v - t.first) (omega arith)))
          (λ n. let u = eqb-false w v n in rw n (ne_eqb (w - t.first) (v - t.first) (λ x. u (omega arith))))

      turned : (b : Bool) → ◌≡◌ {A = ℕ} (cond b 0 1) (cond (not b) 1 0)
      turned true = refl
      turned false = refl

-- at most one window more is marked
pub step-few : {t : Stretch} {o w : ℕ} {z : ℤ} {M : List ℕ} {r : ℕ} {M' : List ℕ} → MarkStep t o w z M r M' → r ≤ 1
step-few {t} {o} {w} {z} {M} s = by-test ((shows_in t o w && is_above z) && not (marked t M w)) (λ y. rw (s.more, y) (omega arith)) (λ n. rw (s.more, n) (omega arith))
