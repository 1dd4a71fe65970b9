-- Slots that hold the counts of some windows of a list: of sixteen, or of the last.
use Rattle.lists.proofs.Prelude.{Bool, true, not, List, [], ◌∷◌, ◌++◌, ◌≡◌, refl, sym, ap, ◌∙◌, ℕ, zero, suc, ◌+◌, ◌-◌, ◌*◌, ◌/◌, ◌%◌, ◌<◌, ◌≤◌, min, arith, length, length-append, length-drop, length-take-le, get_or, get_or-take, get_or-drop, take, take-append-le, drop, drop-append-le, eqb, eq-eqb, ne_eqb, elem, different, different-take, and_left, and_right, never, not-true}
use Rattle.lists.proofs.Places.{any_at}
use Rattle.postings.specs.declared.Posting.{Posting}
use Rattle.state.specs.declared.State.{State}
use Rattle.partitions.specs.Reading.{stored}
use Rattle.kway.specs.Parts.{part}
use Rattle.sums.specs.Views.{first_place, held_in, Tidy}
use Rattle.sums.specs.Tally.{counts_of, ReadAll}

-- a window is named at its place
pub at-elem : (l : List ℕ) (i : ℕ) → i < length l → elem (get_or l i 0) l ≡ true
at-elem l i h = any_at (λ m. eqb m (get_or l i 0)) l 0 i h (eq-eqb (get_or l i 0) (get_or l i 0) refl)

-- of different windows each has its own place
place-once : (ws : List ℕ) → different ws ≡ true → (j : ℕ) → j < length ws → first_place (get_or ws j 0) ws ≡ j
place-once [] d j h = absurd (omega arith)
place-once (w ∷ ws) d zero h = rw (eq-eqb w w refl)
place-once (w ∷ ws) d (suc j) h =
    rw (ne_eqb w (get_or ws j 0) (λ e. never (sym (not-true (elem w ws) (and_left (not (elem w ws)) _ d)) ∙ rw e (at-elem ws j (omega arith)))), place-once ws (and_right (not (elem w ws)) _ d) j (omega arith))

-- those after the first i differ too
different-drop : (i : ℕ) (ws : List ℕ) → different ws ≡ true → different (drop i ws) ≡ true
different-drop zero ws d = d
different-drop (suc i) [] d = refl
different-drop (suc i) (w ∷ ws) d = different-drop i ws (and_right (not (elem w ws)) _ d)

-- from window i on, those of its portion have the counts c in their slots
pub record Loaded (c : ℕ → List Posting) (ws : List ℕ) (i : ℕ) (T : List ℕ) : Type 0 where
  pub long : length T ≡ 1040
  pub tidy : (j : ℕ) → i ≤ j → j < length ws → j / 16 ≡ i / 16 → Tidy (get_or ws j 0) (part 65 (j % 16) T)
  pub counts : (j : ℕ) → i ≤ j → j < length ws → j / 16 ≡ i / 16 → held_in (get_or ws j 0) (part 65 (j % 16) T) ≡ c (get_or ws j 0)

-- before window i: where a portion begins, nothing is held yet
pub record Holding (c : ℕ → List Posting) (ws : List ℕ) (i : ℕ) (T : List ℕ) : Type 0 where
  pub long : length T ≡ 1040
  pub held : (i % 16 ≡ 0 → ⊥) → Loaded c ws i T

pub holding-none : (c : ℕ → List Posting) (ws T : List ℕ) → length T ≡ 1040 → Holding c ws 0 T
holding-none c ws T e = record { long = e; held = λ h. absurd (h refl) }

pub holding-next : (c : ℕ → List Posting) (ws : List ℕ) (i : ℕ) (T : List ℕ) → Loaded c ws i T → Holding c ws (i + 1) T
holding-next c ws i T l = record {
  long = l.long;
  held = λ h. let same : (i + 1) / 16 ≡ i / 16 = same-portion i h in record {
    long = l.long;
    tidy = λ j a b e. l.tidy j (omega arith) b (e ∙ same);
    counts = λ j a b e. l.counts j (omega arith) b (e ∙ same);
  };
}
  where
    same-portion : (i : ℕ) → ((i + 1) % 16 ≡ 0 → ⊥) → (i + 1) / 16 ≡ i / 16
    same-portion i h = omega (arith, h)

-- the portion that begins at window i is read
module _ (W : List ℕ) (t : State) (c : ℕ → List Posting) (ws : List ℕ) (once : different ws ≡ true) (i : ℕ) (begins : i % 16 ≡ 0) (n : ℕ) (size : n ≡ min (length ws - i) 16) (r : Bool) (P T : List ℕ)
    (a : ReadAll W t (take n (drop i ws)) r P) (fine : r ≡ true) (long : length T ≡ 1040) (same : (j : ℕ) → i ≤ j → j < length ws → counts_of (get_or ws j 0) (stored W t) ≡ c (get_or ws j 0)) where
  abbrev named : List ℕ
  named = take n (drop i ws)

  read : length named ≡ n
  read = length-take-le n (drop i ws) (omega (arith, length-drop i ws))

  wide : length P ≡ 65 * n
  wide = a.long ∙ ap (λ (m : ℕ). 65 * m) read

  abbrev after : List ℕ
  after = P ++ drop (65 * n - 0) T

  window-at : (k : ℕ) → k < n → get_or named k 0 ≡ get_or ws (i + k) 0
  window-at k h = get_or-take n (drop i ws) k 0 h ∙ get_or-drop i ws k 0

  slot_at : (k : ℕ) → k < n → part 65 k after ≡ part 65 k P
  slot_at k h =
      rw (drop-append-le (65 * k) P (drop (65 * n - 0) T) (omega (arith, wide))) (take-append-le 65 (drop (65 * k) P) (drop (65 * n - 0) T) (omega (arith, wide, length-drop (65 * k) P)))

  tidy-at : (k : ℕ) → k < n → Tidy (get_or ws (i + k) 0) (part 65 k after)
  tidy-at k h = rw (slot_at k h, ← window-at k h) (a.tidy k (omega (arith, read)))

  counts-at : (k : ℕ) → k < n → held_in (get_or ws (i + k) 0) (part 65 k after) ≡ c (get_or ws (i + k) 0)
  counts-at k h =
      let here : k < length named = omega (arith, read) in
      let held : held_in (get_or named k 0) (part 65 k P) ≡ counts_of (get_or named k 0) (stored W t) = rw (place-once named (different-take n (drop i ws) (different-drop i ws once)) k here) at (a.counts fine (get_or named k 0) (at-elem named k here)) in
      rw (slot_at k h) (rw (window-at k h) at held ∙ same (i + k) (omega arith) (omega arith))

  pub loaded-read : Loaded c ws i after
  loaded-read = record {
    long = omega (arith, wide, length-append P (drop (65 * n - 0) T), length-drop (65 * n - 0) T, long);
    tidy = λ j l h e. let k : j % 16 ≡ j - i = omega arith in let q : i + (j - i) ≡ j = omega arith in rw (q, ← k) at (tidy-at (j - i) (omega arith));
    counts = λ j l h e. let k : j % 16 ≡ j - i = omega arith in let q : i + (j - i) ≡ j = omega arith in rw (q, ← k) at (counts-at (j - i) (omega arith));
  }
