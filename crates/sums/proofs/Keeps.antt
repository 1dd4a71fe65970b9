-- One key more: what is told of the counts.
use Rattle.lists.proofs.Prelude.{Bool, true, false, cond, ◌&&◌, ◌||◌, not, List, [], ◌∷◌, ◌++◌, map, map-append, ◌≡◌, refl, sym, ap, ◌∙◌, ℕ, ◌+◌, ◌*◌, ◌<◌, ◌≤◌, add-one, arith, ltb, ℤ, nat_abs, eqb, eqb-true, eqb-false, length, length-append, get_or, take, set, length-set, take-suc-set, eq-eqb, ne_eqb, le-leb, lt-leb, leb-true, le-ltb, elem, by-test, and_left, and_right, never, append-nil}
use mir.Syntax.{w16, w32}
use mir.Val.{SFits, to_z, of_z}
use mir.Facts.{to_z-of_z}
use Rattle.lists.proofs.Sizes.{small-fits}
use Rattle.postings.specs.declared.Posting.{Posting}
use Rattle.postings.specs.Merge.{is_zero}
use Rattle.postings.specs.Pack.{packed}
use Rattle.postings.proofs.Sums.{is-zero}
use Rattle.postings.proofs.Trips.{packed-count, packed-window}
use Rattle.partitions.specs.Formed.{in_range}
use Rattle.kway.specs.Parts.{part}
use Rattle.scans.specs.Keys.{key_id, key_window}
use Rattle.sums.specs.Views.{held_in, count_in, Tidy, first_place, held_for}
use Rattle.sums.specs.Steps.{count_at, Counted}
use Rattle.sums.proofs.Tally.{faulty, tallied, total_at, tally_if, kept_of}
use Rattle.sums.proofs.Slots.{place-elem, held-length, held-few, after, put-long, put-own, put_other, put-tidy}

-- ---- the cases of a key of the slot's window

module _ (l : List ℕ) (k : ℕ) (sum total : ℤ) (tidy : Tidy (key_window k) l) where
  abbrev own : List Posting
  own = held_in (key_window k) l

  short : length own ≤ 64
  short = omega (arith, tidy.few, held-length (key_window k) l tidy)

  -- a sum out of range
  pub kept_out : (in_range sum && in_range total) ≡ false → Counted l k sum total false l
  kept_out f = record { fine = rw f; counts = λ e. never e; tidy = tidy }

  module _ (r : (in_range sum && in_range total) ≡ true) where
    -- a total of 0
    pub kept-zero : is_zero total ≡ true → Counted l k sum total true l
    kept-zero z = record {
      fine = rw (r, z, append-nil own, le-leb (length own) 64 short);
      counts = λ e. rw (z, append-nil own);
      tidy = tidy;
    }

    module _ (z : is_zero total ≡ false) where
      -- a 65th count
      pub kept_full : get_or l 0 0 ≡ 64 → Counted l k sum total false l
      kept_full h = record {
        fine = rw (r, z, lt-leb (length (own ++ (total_at k total ∷ []))) 64 (omega (arith, held-length (key_window k) l tidy, length-append own (total_at k total ∷ []))));
        counts = λ e. never e;
        tidy = tidy;
      }

    -- the total fits a count
    pub total-small : nat_abs total ≤ 32767
    total-small = leb-true _ _ (and_right (in_range sum) _ r)

    pub total-fits : SFits w16 total
    total-fits = small-fits total total-small

-- the slot with one word more
abbrev pub grown : List ℕ → ℕ → List ℕ
grown l x = set (set l (get_or l 0 0 + 1) x) 0 (get_or l 0 0 + 1)

-- has one count more
held_grown : (w : ℕ) (l : List ℕ) (x : ℕ) → w ≤ 65535 → length l ≡ 65 → get_or l 0 0 < 64 → (held_in w (grown l x) ≡ held_in w l ++ (count_in w x ∷ [])) × Tidy w (grown l x)
held_grown w [] x low e h = absurd (omega arith)
held_grown w (n ∷ l) x low e h =
    rw (add-one n)
    (ap (map (count_in w)) (take-suc-set l n x (omega arith)) ∙ map-append (count_in w) (take n l) (x ∷ []), record { long = rw (length-set l n x) e; few = omega arith; low = λ g. low })

-- a count more
pub kept_more : (l : List ℕ) (k : ℕ) (sum total : ℤ) → Tidy (key_window k) l → (in_range sum && in_range total) ≡ true → is_zero total ≡ false → (get_or l 0 0 ≡ 64 → ⊥)
    → Counted l k sum total true (grown l (packed total (key_id k)))
kept_more l k sum total tidy r z h =
    let few : get_or l 0 0 < 64 = omega (arith, tidy.few) in
    let small = total-small l k sum total tidy r in
    let g = held_grown (key_window k) l (packed total (key_id k)) (omega arith) tidy.long few in
    let same : count_in (key_window k) (packed total (key_id k)) ≡ total_at k total = rw (packed-window total (key_id k) small, packed-count total (key_id k) small) in
    record {
      fine = rw (r, z, le-leb (length (held_in (key_window k) l ++ (total_at k total ∷ []))) 64 (omega (arith, held-length (key_window k) l tidy, length-append (held_in (key_window k) l) (total_at k total ∷ []))));
      counts = λ y. rw z (g.0 ∙ ap (λ (p : Posting). held_in (key_window k) l ++ (p ∷ [])) same);
      tidy = g.1;
    }

-- a total is 0 where its word is
pub zero_word : (z : ℤ) → SFits w32 z → of_z w32 z ≡ 0 → is_zero z ≡ true
zero_word z f e = ap is_zero (sym (to_z-of_z f) ∙ ap (to_z w32) e)

pub nonzero-word : (z : ℤ) → (of_z w32 z ≡ 0 → ⊥) → is_zero z ≡ false
nonzero-word z n = by-test (is_zero z) (λ y. absurd (n (ap (of_z w32) (is-zero z y)))) (λ m. m)

-- ---- what that tells

module _ (w k : ℕ) (sum total : ℤ) where
  -- of a key of another window nothing
  pub told-other : (key_window k ≡ w → ⊥) → (cs : List Posting) → length cs ≤ 64 → kept_of w k sum total cs ≡ tallied cs
  unfolding kept_of tally_if
  told-other n cs h = rw (ne_eqb (key_window k) w n, append-nil cs, le-leb (length cs) 64 h)

module _ (k : ℕ) (sum total : ℤ) (l l' : List ℕ) (fine : Bool) (t : Counted l k sum total fine l') where
  same-list : held_in (key_window k) l ++ count_at k total ≡ held_in (key_window k) l ++ cond (not (is_zero total)) (total_at k total ∷ []) []
  same-list = by-test (is_zero total) (λ y. rw y) (λ n. rw n)

  -- of one of its own what is kept
  pub told-own : fine ≡ true → kept_of (key_window k) k sum total (held_in (key_window k) l) ≡ tallied (held_in (key_window k) l')
  unfolding kept_of tally_if
  told-own y = rw (eq-eqb (key_window k) (key_window k) refl, ← same-list, ← t.fine, y) (ap tallied (sym (t.counts y)))

  -- or that it is malformed
  pub told-faulty : fine ≡ false → kept_of (key_window k) k sum total (held_in (key_window k) l) ≡ faulty
  unfolding kept_of tally_if
  told-faulty n = rw (eq-eqb (key_window k) (key_window k) refl, ← same-list, ← t.fine, n)

-- the windows that are followed: those named, and numbers that no window has, which stay without counts
abbrev pub Watched : List ℕ → ℕ → Type 0
Watched ws v = (elem v ws || ltb 65535 v) ≡ true

-- one key more: all was fine before it and is after it, and T' are the slots then
pub record Step (ws T T' : List ℕ) (k : ℕ) (sum total : ℤ) (was fine : Bool) : Type 0 where
  pub so_far : fine ≡ true → was ≡ true
  pub kept : fine ≡ true → (v : ℕ) → Watched ws v → kept_of v k sum total (held_for ws T v) ≡ tallied (held_for ws T' v)
  pub lost : fine ≡ false → was ≡ true → (elem (key_window k) ws ≡ true) × (kept_of (key_window k) k sum total (held_for ws T (key_window k)) ≡ faulty)
  pub long : length T' ≡ 65 * length ws
  pub tidy : (j : ℕ) → j < length ws → Tidy (get_or ws j 0) (part 65 j T')

module _ (ws T : List ℕ) (k : ℕ) (sum total : ℤ) (long : length T ≡ 65 * length ws) (tidy : (j : ℕ) → j < length ws → Tidy (get_or ws j 0) (part 65 j T)) where
  -- a key of a window that is not named
  pub step_other : elem (key_window k) ws ≡ false → (was fine : Bool) → fine ≡ was → Step ws T T k sum total was fine
  step_other n was fine e = record {
    so_far = λ y. sym e ∙ y;
    kept = λ y v m. told-other v k sum total (λ q. never (rw (← q, n, le-ltb 65535 (key_window k) (omega arith)) at m)) (held_for ws T v) (held-few ws T long tidy v);
    lost = λ f y. never (sym f ∙ e ∙ y);
    long = long;
    tidy = tidy;
  }

  -- of one that is
  module _ (here : first_place (key_window k) ws < length ws) (P : List ℕ) (right : Bool) (t : Counted (part 65 (first_place (key_window k) ws) T) k sum total right P) where
    pub step-own : (was fine : Bool) → fine ≡ (was && right) → Step ws T (after ws T long tidy (key_window k) here P t.tidy) k sum total was fine
    step-own was fine e = record {
      so_far = λ y. and_left was _ (sym e ∙ y);
      kept = λ y v m. by-test (eqb v (key_window k))
          (λ z. own v (eqb-true v (key_window k) z) (and_right was right (sym e ∙ y)))
          (λ n. other v (eqb-false v (key_window k) n));
      lost = λ f y. (place-elem (key_window k) ws here, told-faulty k sum total _ P right t (right-false was right (sym e ∙ f) y));
      long = put-long ws T long tidy (key_window k) here P t.tidy;
      tidy = put-tidy ws T long tidy (key_window k) here P t.tidy;
    }
      where
        right-false : (x y : Bool) → (x && y) ≡ false → x ≡ true → y ≡ false
        right-false true y p q = p
        right-false false y p q = never q

        own : (v : ℕ) → v ≡ key_window k → right ≡ true → kept_of v k sum total (held_for ws T v) ≡ tallied (held_for ws (after ws T long tidy (key_window k) here P t.tidy) v)
        own v q y = rw q (told-own k sum total _ P right t y ∙ ap tallied (sym (put-own ws T long tidy (key_window k) here P t.tidy)))

        other : (v : ℕ) → (v ≡ key_window k → ⊥) → kept_of v k sum total (held_for ws T v) ≡ tallied (held_for ws (after ws T long tidy (key_window k) here P t.tidy) v)
        other v n = told-other v k sum total (λ q. n (sym q)) (held_for ws T v) (held-few ws T long tidy v) ∙ ap tallied (sym (put_other ws T long tidy (key_window k) here P t.tidy v n))
