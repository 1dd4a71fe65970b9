-- What a flush and a merge do to the levels: one more partition of level 0 at the end, and the inputs' place taken by the result.
use Rattle.lists.proofs.Prelude.{Bool, true, ◌&&◌, cond, List, [], ◌∷◌, ◌++◌, ◌≡◌, refl, sym, ap, ap₂, ◌∙◌, ℕ, zero, suc, ◌+◌, ◌<◌, ◌≤◌, arith, eqb, leb, ltb, length, take, drop, length-append, take-append-drop, ltb-true, leb-true, eqb-true, eqb-false, le-leb, ne_eqb, keep, every, below, by-test, and_left, and_right, and_both, every-from, keep_append, keep_all, every_append, every_take, every_drop}
use Rattle.state.specs.Levels.{due_at, next_level, level_limit, levels, of_level, due_levels, oldest_at, oldest, replaced}
use Rattle.levels.proofs.Runs.{falls, due-first, before-run, oldest-length, oldest-level}

-- what a test over the levels says of each of 0 to 5
pub at-levels : (t : ℕ → Bool) → every t levels ≡ true → (u : ℕ) → u ≤ 5 → t u ≡ true
unfolding below
at-levels t e u h = at-below 6 u e (omega arith)
  where
    at-below : (n u : ℕ) → every t (below n) ≡ true → u < n → t u ≡ true
    at-below zero u e h = absurd (omega arith)
    at-below (suc n) u e h =
        by-test (eqb u n) (λ y. rw (eqb-true u n y) (and_left (t n) _ e))
        (λ d. let apart = eqb-false u n d in at-below n u (and_right (t n) _ e) (omega arith))

-- and back
pub all-levels : (t : ℕ → Bool) → ((u : ℕ) → u ≤ 5 → t u ≡ true) → every t levels ≡ true
unfolding below
all-levels t h = all-below 6 (λ u low. h u (omega arith))
  where
    all-below : (n : ℕ) → ((u : ℕ) → u < n → t u ≡ true) → every t (below n) ≡ true
    all-below zero h = refl
    all-below (suc n) h = and_both (t n) _ (h n (omega arith)) (all-below n (λ u low. h u (omega arith)))

-- a merge writes the next level, or 5 again
next-above : (v x : ℕ) → v < x → next_level v ≤ x
next-above v x h = by-test (eqb v 5) (λ y. let e = eqb-true v 5 y in rw y (omega arith)) (λ n. rw n (omega arith))

next-least : (v : ℕ) → v ≤ next_level v
next-least v = by-test (eqb v 5) (λ y. let e = eqb-true v 5 y in rw y (omega arith)) (λ n. rw n (omega arith))

-- a level is due before it is full
due-limit : (u : ℕ) → due_at u ≤ level_limit u
due-limit u =
    by-test (eqb u 5) (λ y. rw y (by-test (eqb u 0) (λ z. rw z (omega arith)) (λ n. rw n (omega arith))))
    (λ d. rw d (by-test (eqb u 0) (λ z. rw z (omega arith)) (λ n. rw n (omega arith))))

-- a level of 0 to 5 is one of the six
one-level : (n : ℕ) → n ≤ 5
    → cond (eqb n 5) 1 0 + (cond (eqb n 4) 1 0 + (cond (eqb n 3) 1 0 + (cond (eqb n 2) 1 0 + (cond (eqb n 1) 1 0 + cond (eqb n 0) 1 0)))) ≡ 1
one-level zero h = refl
one-level (suc zero) h = refl
one-level (suc (suc zero)) h = refl
one-level (suc (suc (suc zero))) h = refl
one-level (suc (suc (suc (suc zero)))) h = refl
one-level (suc (suc (suc (suc (suc zero))))) h = refl
one-level (suc (suc (suc (suc (suc (suc n)))))) h = absurd (omega arith)

module _ {P : Type 0} (level : P → ℕ) where
  falls-drop : (n : ℕ) (ps : List P) → falls level ps ≡ true → falls level (drop n ps) ≡ true
  falls-drop zero ps f = f
  falls-drop (suc n) [] f = f
  falls-drop (suc n) (p ∷ ps) f = falls-drop n ps (and_right (every (λ q. leb (level q) (level p)) ps) _ f)

  falls-take : (n : ℕ) (ps : List P) → falls level ps ≡ true → falls level (take n ps) ≡ true
  falls-take zero ps f = refl
  falls-take (suc n) [] f = refl
  falls-take (suc n) (p ∷ ps) f =
      let e = every (λ q. leb (level q) (level p)) ps in
      and_both _ _ (every_take (λ q. leb (level q) (level p)) n ps (and_left e _ f)) (falls-take n ps (and_right e _ f))

  -- two lists that part at a level
  pub falls-join : (n : ℕ) (l m : List P) → falls level l ≡ true → falls level m ≡ true
      → every (λ q. leb n (level q)) l ≡ true → every (λ q. leb (level q) n) m ≡ true → falls level (l ++ m) ≡ true
  falls-join n [] m f g a b = g
  falls-join n (p ∷ l) m f g a b =
      let e = every (λ q. leb (level q) (level p)) l in
      let high : n ≤ level p = leb-true n (level p) (and_left (leb n (level p)) _ a) in
      let low = every-from (λ q. leb (level q) n) (λ q. leb (level q) n) (λ q. leb (level q) (level p))
      (λ q x y. let k : level q ≤ n = leb-true (level q) n x in le-leb (level q) (level p) (omega arith)) m b b in
      and_both _ _ (every_append (λ q. leb (level q) (level p)) l m ∙ ap₂ ◌&&◌ (and_left e _ f) low)
      (falls-join n l m (and_right e _ f) g (and_right (leb n (level p)) _ a) b)

  -- one more of level 0 at the end
  pub falls-add : (ps : List P) (q : P) → falls level ps ≡ true → level q ≡ 0 → falls level (ps ++ (q ∷ [])) ≡ true
  falls-add ps q f z = falls-join 0 ps (q ∷ []) f refl (all ps) (rw z)
    where
      all : (l : List P) → every (λ p. leb 0 (level p)) l ≡ true
      all [] = refl
      all (p ∷ l) = and_both _ _ (le-leb 0 (level p) (omega arith)) (all l)

  -- from the place of a level on none is of a higher level
  from_place : (v : ℕ) (ps : List P) → falls level ps ≡ true → every (λ q. leb (level q) v) (drop (oldest_at level v ps) ps) ≡ true
  from_place v [] f = refl
  from_place v (p ∷ ps) f =
      let e = every (λ q. leb (level q) (level p)) ps in
      by-test (eqb (level p) v)
      (λ y. let same = eqb-true (level p) v y in rw y (and_both _ _ (le-leb (level p) v (omega arith)) (rw same at (and_left e _ f))))
      (λ n. rw n (from_place v ps (and_right e _ f)))

  -- how many are of a level in two lists
  pub count-append : (u : ℕ) (l m : List P) → of_level level u (l ++ m) ≡ of_level level u l + of_level level u m
  count-append u l m = rw (keep_append (λ q. eqb (level q) u) l m, length-append (keep (λ q. eqb (level q) u) l) (keep (λ q. eqb (level q) u) m))

  -- of partitions that are all of one level
  pub count-all : (v : ℕ) (l : List P) → every (λ q. eqb (level q) v) l ≡ true → of_level level v l ≡ length l
  count-all v l e = rw (keep_all (λ q. eqb (level q) v) l e)

  -- and of any other level
  pub count-other : (u v : ℕ) (l : List P) → every (λ q. eqb (level q) v) l ≡ true → (u ≡ v → ⊥) → of_level level u l ≡ 0
  count-other u v [] e h = refl
  count-other u v (p ∷ l) e h =
      let same = eqb-true (level p) v (and_left (eqb (level p) v) _ e) in
      rw (ne_eqb (level p) u (λ s. h (omega arith))) (count-other u v l (and_right (eqb (level p) v) _ e) h)

  -- what was of a level goes with the inputs or stays, and the result comes to it
  pub replaced-count : (u v : ℕ) (vs : List ℕ) (ps result : List P)
      → of_level level u (replaced level (v ∷ vs) ps result) + of_level level u (oldest level (v ∷ vs) ps) ≡ of_level level u ps + of_level level u result
  replaced-count u v vs ps result =
      let k = oldest_at level v ps in
      let back = drop k ps in
      let a = count-append u (take k ps) (result ++ drop (due_at v) back) in
      let b = count-append u result (drop (due_at v) back) in
      let c : of_level level u ps ≡ of_level level u (take k ps) + of_level level u back = ap (of_level level u) (sym (take-append-drop k ps)) ∙ count-append u (take k ps) back in
      let d : of_level level u back ≡ of_level level u (take (due_at v) back) + of_level level u (drop (due_at v) back) =
      ap (of_level level u) (sym (take-append-drop (due_at v) back)) ∙ count-append u (take (due_at v) back) (drop (due_at v) back) in
      omega arith

  -- levels never rise after a merge either
  pub replaced-falls : (v : ℕ) (vs : List ℕ) (ps result : List P) → falls level ps ≡ true → due_at v ≤ of_level level v ps
      → length result ≤ 1 → every (λ q. eqb (level q) (next_level v)) result ≡ true → falls level (replaced level (v ∷ vs) ps result) ≡ true
  replaced-falls v vs ps result f enough one same =
      falls-join (next_level v) (take k ps) (result ++ drop (due_at v) (drop k ps)) (falls-take k ps f)
      (falls-join (next_level v) result (drop (due_at v) (drop k ps)) (single result one) (falls-drop (due_at v) (drop k ps) (falls-drop k ps f)) high low)
      front (every_append (λ q. leb (level q) (next_level v)) result (drop (due_at v) (drop k ps)) ∙ ap₂ ◌&&◌ equal low)
    where
      k : ℕ
      k = oldest_at level v ps

      some : 1 ≤ of_level level v ps
      some = by-test (eqb v 5) (λ y. let h : 3 ≤ of_level level v ps = rw y at enough in omega arith) (λ n. let h : 8 ≤ of_level level v ps = rw n at enough in omega arith)

      front : every (λ q. leb (next_level v) (level q)) (take k ps) ≡ true
      front =
          every-from (λ q. ltb v (level q)) (λ q. ltb v (level q)) (λ q. leb (next_level v) (level q))
          (λ q x y. le-leb _ _ (next-above v (level q) (ltb-true v (level q) x))) (take k ps) (before-run level v ps f some) (before-run level v ps f some)

      high : every (λ q. leb (next_level v) (level q)) result ≡ true
      high = every-from (λ q. eqb (level q) (next_level v)) (λ q. eqb (level q) (next_level v)) (λ q. leb (next_level v) (level q))
          (λ q x y. let e = eqb-true (level q) (next_level v) x in le-leb (next_level v) (level q) (omega arith)) result same same

      equal : every (λ q. leb (level q) (next_level v)) result ≡ true
      equal = every-from (λ q. eqb (level q) (next_level v)) (λ q. eqb (level q) (next_level v)) (λ q. leb (level q) (next_level v))
          (λ q x y. let e = eqb-true (level q) (next_level v) x in le-leb (level q) (next_level v) (omega arith)) result same same

      low : every (λ q. leb (level q) (next_level v)) (drop (due_at v) (drop k ps)) ≡ true
      low =
          let all = every_drop (λ q. leb (level q) v) (due_at v) (drop k ps) (from_place v ps f) in
          let least = next-least v in
          every-from (λ q. leb (level q) v) (λ q. leb (level q) v) (λ q. leb (level q) (next_level v))
          (λ q x y. let e : level q ≤ v = leb-true (level q) v x in le-leb (level q) (next_level v) (omega arith)) (drop (due_at v) (drop k ps)) all all

      single : (l : List P) → length l ≤ 1 → falls level l ≡ true
      single [] h = refl
      single (p ∷ []) h = refl
      single (p ∷ q ∷ l) h = absurd (omega arith)

  -- nor has any level more than it may
  pub replaced-limits : (v : ℕ) (vs : List ℕ) (ps result : List P) → falls level ps ≡ true → due_levels level ps ≡ v ∷ vs
      → length result ≤ 1 → every (λ q. eqb (level q) (next_level v)) result ≡ true
      → every (λ u. leb (of_level level u ps) (level_limit u)) levels ≡ true
      → every (λ u. leb (of_level level u (replaced level (v ∷ vs) ps result)) (level_limit u)) levels ≡ true
  replaced-limits v vs ps result f due one same within =
      all-levels (λ u. leb (of_level level u (replaced level (v ∷ vs) ps result)) (level_limit u)) (λ u h. le-leb (of_level level u (replaced level (v ∷ vs) ps result)) (level_limit u) (bound u h))
    where
      enough : due_at v ≤ of_level level v ps
      enough = (due-first level ps v vs due).1

      bound : (u : ℕ) → u ≤ 5 → of_level level u (replaced level (v ∷ vs) ps result) ≤ level_limit u
      bound u h =
          let c = replaced-count u v vs ps result in
          let old : of_level level u ps ≤ level_limit u = leb-true (of_level level u ps) (level_limit u) (at-levels (λ w. leb (of_level level w ps) (level_limit w)) within u h) in
          by-test (eqb u (next_level v))
          (λ y. let next : u ≡ next_level v = eqb-true u (next_level v) y in
          let more : of_level level u result ≡ length result = rw next (count-all (next_level v) result same) in
          by-test (eqb v 5)
          (λ top. let five : v ≡ 5 = eqb-true v 5 top in
          let here : u ≡ v = next ∙ (rw top (sym five)) in
          let gone : of_level level u (oldest level (v ∷ vs) ps) ≡ due_at v = rw here (count-all v (oldest level (v ∷ vs) ps) (oldest-level level ps v vs f enough) ∙ oldest-length level ps v vs enough) in
          let three : due_at v ≡ 3 = rw top in
          omega arith)
          (λ n. let up : u ≡ suc v = next ∙ rw n in
          let room : of_level level u ps < due_at u = (due-first level ps v vs due).2 u (omega arith) h in
          let full = due-limit u in
          omega arith))
          (λ d. let none : of_level level u result ≡ 0 = count-other u (next_level v) result same (eqb-false u (next_level v) d) in omega arith)

  -- nor after one more of level 0, where that has room
  pub added-limits : (ps : List P) (q : P) → level q ≡ 0 → of_level level 0 ps < 16 → every (λ u. leb (of_level level u ps) (level_limit u)) levels ≡ true
      → every (λ u. leb (of_level level u (ps ++ (q ∷ []))) (level_limit u)) levels ≡ true
  added-limits ps q z room within =
      all-levels (λ u. leb (of_level level u (ps ++ (q ∷ []))) (level_limit u)) (λ u h. le-leb (of_level level u (ps ++ (q ∷ []))) (level_limit u) (bound u h))
    where
      flat : every (λ p. eqb (level p) 0) (q ∷ []) ≡ true
      flat = rw z

      bound : (u : ℕ) → u ≤ 5 → of_level level u (ps ++ (q ∷ [])) ≤ level_limit u
      bound u h =
          let c = count-append u ps (q ∷ []) in
          let old : of_level level u ps ≤ level_limit u = leb-true (of_level level u ps) (level_limit u) (at-levels (λ w. leb (of_level level w ps) (level_limit w)) within u h) in
          by-test (eqb u 0)
          (λ y. let e : u ≡ 0 = eqb-true u 0 y in
          let one : of_level level u (q ∷ []) ≡ 1 = rw e (count-all 0 (q ∷ []) flat) in
          let few : of_level level u ps < 16 = rw e room in
          let most : level_limit u ≡ 16 = rw y in
          omega arith)
          (λ n. let none : of_level level u (q ∷ []) ≡ 0 = count-other u 0 (q ∷ []) flat (eqb-false u 0 n) in omega arith)

  -- a partition counts under its level
  count-cons : (v : ℕ) (p : P) (ps : List P) → of_level level v (p ∷ ps) ≡ cond (eqb (level p) v) 1 0 + of_level level v ps
  count-cons v p ps = by-test (eqb (level p) v) (λ y. rw y (omega arith)) (λ n. rw n (omega arith))

  -- the partitions are those of the six levels
  pub length-levels : (ps : List P) → every (λ q. leb (level q) 5) ps ≡ true
      → length ps ≡ of_level level 5 ps + (of_level level 4 ps + (of_level level 3 ps + (of_level level 2 ps + (of_level level 1 ps + of_level level 0 ps))))
  length-levels [] e = refl
  length-levels (p ∷ ps) e =
      let i = length-levels ps (and_right (leb (level p) 5) _ e) in
      let one = one-level (level p) (leb-true (level p) 5 (and_left (leb (level p) 5) _ e)) in
      let five = count-cons 5 p ps in
      let four = count-cons 4 p ps in
      let three = count-cons 3 p ps in
      let two = count-cons 2 p ps in
      let single = count-cons 1 p ps in
      let none = count-cons 0 p ps in
      omega arith

  -- so there are at most 51, and there is room for one more where level 0 has some
  pub levels-room : (ps : List P) → every (λ q. leb (level q) 5) ps ≡ true → every (λ u. leb (of_level level u ps) (level_limit u)) levels ≡ true
      → length ps ≤ 35 + of_level level 0 ps
  levels-room ps e within =
      let all = length-levels ps e in
      let five : of_level level 5 ps ≤ 3 = most 5 (omega arith) in
      let four : of_level level 4 ps ≤ 8 = most 4 (omega arith) in
      let three : of_level level 3 ps ≤ 8 = most 3 (omega arith) in
      let two : of_level level 2 ps ≤ 8 = most 2 (omega arith) in
      let one : of_level level 1 ps ≤ 8 = most 1 (omega arith) in
      omega arith
    where
      most : (u : ℕ) → u ≤ 5 → of_level level u ps ≤ level_limit u
      most u h = leb-true (of_level level u ps) (level_limit u) (at-levels (λ w. leb (of_level level w ps) (level_limit w)) within u h)
