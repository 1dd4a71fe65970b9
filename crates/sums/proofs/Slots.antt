-- The places at which windows are named, and the slots that hold their counts.
use Rattle.std.specs.List.{position_or_len}
use Rattle.lists.proofs.Prelude.{true, false, List, [], ◌∷◌, ◌≡◌, refl, sym, ap, ◌∙◌, ℕ, ◌+◌, ◌*◌, ◌<◌, ◌≤◌, arith, eqb, ltb, length, length-map, length-drop, length-take-le, get_or, get_or-set_same, get_or-set_other, set, length-set, take, drop, drop_of_length-le, eqb-true, eqb-false, eq-eqb, ltb-true, ltb-false, elem, by-test, never}
use Rattle.kway.specs.Parts.{part}
use Rattle.kway.proofs.Parts.{first-of, put_in, put-length, put-here, put-before, put-later}
use Rattle.sums.specs.Views.{held_in, Tidy, Cleared, first_place, held_for}

-- ---- places

module _ (w : ℕ) where
  pub place-most : (ws : List ℕ) → first_place w ws ≤ length ws
  place-most [] = omega arith
  place-most (v ∷ vs) = let r = place-most vs in by-test (eqb v w) (λ y. rw y (omega arith)) (λ n. rw n (omega arith))

  -- a window that is named has a place
  pub place-there : (ws : List ℕ) → elem w ws ≡ true → first_place w ws < length ws
  place-there [] e = never e
  place-there (v ∷ vs) e = by-test (eqb v w) (λ y. rw y (omega arith)) (λ n. let r = place-there vs (rw n at e) in rw n (omega arith))

  -- at its place it is named
  pub place_at : (ws : List ℕ) → first_place w ws < length ws → get_or ws (first_place w ws) 0 ≡ w
  place_at [] h = absurd (omega arith)
  place_at (v ∷ vs) h = by-test (eqb v w) (λ y. rw y (eqb-true v w y)) (λ n. rw n (place_at vs (let g = rw n at h in omega arith)))

  pub place-elem : (ws : List ℕ) → first_place w ws < length ws → elem w ws ≡ true
  place-elem [] h = absurd (omega arith)
  place-elem (v ∷ vs) h = by-test (eqb v w) (λ y. rw y) (λ n. rw n (place-elem vs (let g = rw n at h in omega arith)))

  -- one that is not has none
  pub place_none : (ws : List ℕ) → elem w ws ≡ false → first_place w ws ≡ length ws
  place_none ws e = by-test (ltb (first_place w ws) (length ws))
      (λ y. never (sym e ∙ place-elem ws (ltb-true _ _ y)))
      (λ n. let g = ltb-false (first_place w ws) (length ws) n in let m = place-most ws in omega arith)

  pub place-missing : (ws : List ℕ) → length ws ≤ first_place w ws → elem w ws ≡ false
  place-missing ws h = by-test (elem w ws) (λ y. let g = place-there ws y in absurd (omega arith)) (λ n. n)

  -- it is the library's first place at which a test passes
  pub place-first : (ws : List ℕ) → position_or_len (λ v. eqb v w) ws ≡ first_place w ws
  place-first [] = refl
  place-first (v ∷ ws) = by-test (eqb v w) (λ y. rw y) (λ n. rw (n, place-first ws) (omega arith))

-- different windows have different places
pub place-apart : (v w : ℕ) (ws : List ℕ) → (v ≡ w → ⊥) → first_place w ws < length ws → first_place v ws ≡ first_place w ws → ⊥
place-apart v w ws n h e = n (sym (place_at v ws (omega arith)) ∙ ap (λ (i : ℕ). get_or ws i 0) e ∙ place_at w ws h)

-- ---- slots

pub held-length : (w : ℕ) (l : List ℕ) → Tidy w l → length (held_in w l) ≡ get_or l 0 0
held-length w l t =
    length-map (take (get_or l 0 0) (drop 1 l)) _ ∙ length-take-le (get_or l 0 0) (drop 1 l) (omega (arith, t.long, t.few, length-drop 1 l))

module _ (ws T : List ℕ) (long : length T ≡ 65 * length ws) where
  -- a window that is not named has no slot, and no counts
  pub held-missing : (v : ℕ) → elem v ws ≡ false → held_for ws T v ≡ []
  held-missing v e =
      rw (place_none v ws e, drop_of_length-le T {i = 65 * length ws} (omega arith))

  -- a slot is as long as it should be
  pub slot-long : (j : ℕ) → j < length ws → length (part 65 j T) ≡ 65
  slot-long j h = length-take-le 65 (drop (65 * j) T) (omega (arith, length-drop (65 * j) T))

  module _ (tidy : (j : ℕ) → j < length ws → Tidy (get_or ws j 0) (part 65 j T)) where
    -- no window has more than 64 counts
    pub held-few : (v : ℕ) → length (held_for ws T v) ≤ 64
    held-few v =
        by-test (elem v ws)
        (λ y. let h = place-there v ws y in
        let t = rw (place_at v ws h) at (tidy (first_place v ws) h) in
        omega (arith, held-length v (part 65 (first_place v ws) T) t, t.few))
        (λ n. rw (held-missing v n) (omega arith))

    -- ---- one slot written

    module _ (w : ℕ) (here : first_place w ws < length ws) (P : List ℕ) (new : Tidy w P) where
      abbrev pub after : List ℕ
      after = put_in 65 T P (first_place w ws)

      inside : 65 * first_place w ws + 65 ≤ length T
      inside = omega arith

      pub put-long : length after ≡ 65 * length ws
      put-long = put-length 65 T P (first_place w ws) inside new.long ∙ long

      same-part : (j : ℕ) → (j ≡ first_place w ws → ⊥) → part 65 j after ≡ part 65 j T
      same-part j n =
          by-test (ltb j (first_place w ws))
          (λ y. put-before 65 T P (first_place w ws) inside new.long j (ltb-true _ _ y))
          (λ f. put-later 65 T P (first_place w ws) inside new.long j (let g = ltb-false j (first_place w ws) f in by-test (eqb j (first_place w ws)) (λ z. absurd (n (eqb-true _ _ z))) (λ z. later g z)))
        where
          later : {j p : ℕ} → p ≤ j → eqb j p ≡ false → p < j
          later {j} {p} g z = by-test (ltb p j) (λ y. ltb-true p j y) (λ m. let h = ltb-false p j m in never (sym z ∙ eq-eqb j p (omega arith)))

      -- its window has the new counts
      pub put-own : held_for ws after w ≡ held_in w P
      put-own = ap (held_in w) (put-here 65 T P (first_place w ws) inside new.long)

      -- the others have theirs
      pub put_other : (v : ℕ) → (v ≡ w → ⊥) → held_for ws after v ≡ held_for ws T v
      put_other v n = ap (held_in v) (same-part (first_place v ws) (place-apart v w ws n here))

      pub put-tidy : (j : ℕ) → j < length ws → Tidy (get_or ws j 0) (part 65 j after)
      put-tidy j h =
          by-test (eqb j (first_place w ws))
          (λ y. rw (eqb-true j (first_place w ws) y, put-here 65 T P (first_place w ws) inside new.long, place_at w ws here) new)
          (λ n. rw (same-part j (λ e. never (sym n ∙ eq-eqb j (first_place w ws) e))) (tidy j h))

-- slots without counts
module _ (ws T : List ℕ) (c : Cleared (length ws) T) where
  pub cleared-tidy : (j : ℕ) → j < length ws → Tidy (get_or ws j 0) (part 65 j T)
  cleared-tidy j h = record { long = slot-long ws T c.long j h; few = omega (arith, c.none j h); low = λ g. absurd (omega (arith, c.none j h)) }

  pub cleared-held : (v : ℕ) → held_for ws T v ≡ []
  cleared-held v = by-test (elem v ws) (λ y. rw (c.none (first_place v ws) (place-there v ws y))) (λ n. held-missing ws T c.long v n)

-- ---- clearing

-- of n slots the first i are without counts
pub record ClearedTo (n i : ℕ) (T : List ℕ) : Type 0 where
  pub long : length T ≡ 65 * n
  pub none : (j : ℕ) → j < i → get_or (part 65 j T) 0 0 ≡ 0

-- one more
pub cleared_more : (n i : ℕ) (T : List ℕ) → i < n → ClearedTo n i T → ClearedTo n (i + 1) (set T (65 * i) 0)
cleared_more n i T h c = record {
  long = length-set T (65 * i) 0 ∙ c.long;
  none = λ j g. first-of 65 j (set T (65 * i) 0) (omega arith)
      ∙ by-test (eqb j i)
      (λ y. rw (eqb-true j i y) (get_or-set_same T (65 * i) 0 0 (omega (arith, c.long))))
      (λ m. let z = eqb-false j i m in get_or-set_other T (65 * i) (65 * j) 0 0 (λ q. z (omega arith)) ∙ sym (first-of 65 j T (omega arith)) ∙ c.none j (omega arith));
}
