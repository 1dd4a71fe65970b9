-- The due levels, and the run in which the partitions of a level stand where levels never rise, for partitions of whatever kind that have a level.
use Rattle.lists.proofs.Prelude.{Bool, true, false, ◌&&◌, List, [], ◌∷◌, ◌≡◌, refl, sym, ap, ◌∙◌, ℕ, zero, suc, ◌+◌, ◌<◌, ◌≤◌, arith, eqb, leb, ltb, length, take, drop, length-drop, take-take, length-take-le, ltb-true, leb-true, leb-false, eqb-true, eqb-false, lt-ltb, ne_eqb, keep, any, every, below, by-test, and_left, and_right, and_both, every-from, every-kept, keep-none, length-keep, every_take}
use Rattle.state.specs.Levels.{due_at, of_level, due_levels, oldest_at, oldest}
use Rattle.levels.proofs.Counts.{levels-below}

-- the first of those that a test keeps of n - 1, .., 0 passes it, and none above does
kept-first : (t : ℕ → Bool) (n v : ℕ) (vs : List ℕ) → keep t (below n) ≡ v ∷ vs → (v < n) × (t v ≡ true) × ((u : ℕ) → v < u → u < n → t u ≡ false)
unfolding below
kept-first t zero v vs e = let z : ◌≡◌ {A = ℕ} 0 1 = cc in absurd (omega arith)
kept-first t (suc n) v vs e =
    by-test (t n)
    (λ y. let s : n ∷ keep t (below n) ≡ v ∷ vs = rw y at e in
    let same : n ≡ v = cc in
    (omega arith, rw (← same) y, λ u a b. absurd (omega arith)))
    (λ f. let s : keep t (below n) ≡ v ∷ vs = rw f at e in
    let k = kept-first t n v vs s in
    let low : v < n = k.0 in
    (omega arith, k.1, λ u a b. by-test (eqb u n) (λ y. rw (eqb-true u n y) f) (λ d. let apart = eqb-false u n d in k.2 u a (omega arith))))

module _ {P : Type 0} (level : P → ℕ) where
  -- no level is higher than one before it
  abbrev pub falls : List P → Bool
  falls [] = true
  falls (p ∷ ps) = every (λ q. leb (level q) (level p)) ps && falls ps

  -- what the first of the due levels is: a level of 0 to 5 that has as many partitions as make it due, and above which none is due
  pub due-first : (ps : List P) (v : ℕ) (vs : List ℕ) → due_levels level ps ≡ v ∷ vs
      → (v ≤ 5) × (due_at v ≤ of_level level v ps) × ((u : ℕ) → v < u → u ≤ 5 → of_level level u ps < due_at u)
  due-first ps v vs e =
      let k = kept-first (λ u. leb (due_at u) (of_level level u ps)) 6 v vs (ap (keep (λ u. leb (due_at u) (of_level level u ps))) (sym levels-below) ∙ e) in
      let low : v < 6 = k.0 in
      (omega arith, leb-true _ _ k.1, λ u a b. leb-false _ _ (k.2 u a (omega arith)))

  -- a level's partitions and those before them are within the list
  pub place-within : (v : ℕ) (ps : List P) → oldest_at level v ps + of_level level v ps ≤ length ps
  place-within v [] = omega arith
  place-within v (p ∷ ps) =
      let k = length-keep (λ q. eqb (level q) v) ps in
      let r = place-within v ps in
      by-test (eqb (level p) v) (λ y. rw y (omega arith)) (λ n. rw n (omega arith))

  -- where all are below v none is of level v
  none_of : (v : ℕ) (ps : List P) → every (λ q. ltb (level q) v) ps ≡ true → any (λ q. eqb (level q) v) ps ≡ false
  none_of v [] e = refl
  none_of v (p ∷ ps) e =
      let low : level p < v = ltb-true (level p) v (and_left (ltb (level p) v) _ e) in
      rw (ne_eqb (level p) v (λ s. omega arith)) (none_of v ps (and_right (ltb (level p) v) _ e))

  -- what is at most a level below v is below v
  all-below : (v n : ℕ) (ps : List P) → n < v → every (λ q. leb (level q) n) ps ≡ true → every (λ q. ltb (level q) v) ps ≡ true
  all-below v n ps h e =
      every-from (λ q. leb (level q) n) (λ q. leb (level q) n) (λ q. ltb (level q) v)
      (λ q a b. let low : level q ≤ n = leb-true (level q) n a in lt-ltb (level q) v (omega arith)) ps e e

  -- where none is above v, those of level v come first, and all others are below
  run-first : (v : ℕ) (ps : List P) → every (λ q. leb (level q) v) ps ≡ true → falls ps ≡ true
      → (keep (λ q. eqb (level q) v) ps ≡ take (of_level level v ps) ps) × (every (λ q. ltb (level q) v) (drop (of_level level v ps) ps) ≡ true)
  run-first v [] e f = (refl, refl)
  run-first v (p ∷ ps) e f =
      let top : level p ≤ v = leb-true (level p) v (and_left (leb (level p) v) _ e) in
      let fall = and_left (every (λ q. leb (level q) (level p)) ps) _ f in
      let r = run-first v ps (and_right (leb (level p) v) _ e) (and_right (every (λ q. leb (level q) (level p)) ps) _ f) in
      by-test (eqb (level p) v) (λ y. (rw (y, ← r.0), rw y r.1))
      (λ n. let apart = eqb-false (level p) v n in
      let rest = all-below v (level p) ps (omega arith) fall in
      let gone : keep (λ q. eqb (level q) v) ps ≡ [] = keep-none (λ q. eqb (level q) v) ps (none_of v ps rest) in
      (rw (n, gone), rw (n, gone) (and_both (ltb (level p) v) _ (lt-ltb (level p) v (omega arith)) rest)))

  -- the partitions of a level stand in one run from its place on, and those after the run are of lower levels
  pub run : (v : ℕ) (ps : List P) → falls ps ≡ true
      → (keep (λ q. eqb (level q) v) ps ≡ take (of_level level v ps) (drop (oldest_at level v ps) ps))
      × (1 ≤ of_level level v ps → every (λ q. ltb (level q) v) (drop (of_level level v ps) (drop (oldest_at level v ps) ps)) ≡ true)
  run v [] f = (refl, λ h. refl)
  run v (p ∷ ps) f =
      let fall = and_left (every (λ q. leb (level q) (level p)) ps) _ f in
      let later = and_right (every (λ q. leb (level q) (level p)) ps) _ f in
      let i = run v ps later in
      by-test (eqb (level p) v)
      (λ y. let same = eqb-true (level p) v y in
      let r = run-first v ps (rw same at fall) later in
      rw y (ap (λ (l : List P). p ∷ l) r.0, λ h. r.1))
      (λ n. rw n i)

  -- a level that some partition has is at most what all are at most
  at_most : (v n : ℕ) (ps : List P) → every (λ q. leb (level q) n) ps ≡ true → 1 ≤ of_level level v ps → v ≤ n
  at_most v n [] e h = absurd (omega arith)
  at_most v n (p ∷ ps) e h =
      by-test (eqb (level p) v)
      (λ y. let same = eqb-true (level p) v y in
      let low : level p ≤ n = leb-true (level p) n (and_left (leb (level p) n) _ e) in
      omega arith)
      (λ d. at_most v n ps (and_right (leb (level p) n) _ e) (rw d at h))

  -- those before the run are of higher levels
  pub before-run : (v : ℕ) (ps : List P) → falls ps ≡ true → 1 ≤ of_level level v ps → every (λ q. ltb v (level q)) (take (oldest_at level v ps) ps) ≡ true
  before-run v [] f h = refl
  before-run v (p ∷ ps) f h =
      by-test (eqb (level p) v) (λ y. rw y)
      (λ d. let some : 1 ≤ of_level level v ps = rw d at h in
      let apart = eqb-false (level p) v d in
      let most = at_most v (level p) ps (and_left (every (λ q. leb (level q) (level p)) ps) _ f) some in
      rw d (and_both (ltb v (level p)) _ (lt-ltb v (level p) (omega arith)) (before-run v ps (and_right (every (λ q. leb (level q) (level p)) ps) _ f) some)))

  -- the inputs of a merge are as many as make the level due
  pub oldest-length : (ps : List P) (v : ℕ) (vs : List ℕ) → due_at v ≤ of_level level v ps → length (oldest level (v ∷ vs) ps) ≡ due_at v
  oldest-length ps v vs h =
      let w = place-within v ps in
      length-take-le (due_at v) (drop (oldest_at level v ps) ps) (rw (length-drop (oldest_at level v ps) ps) (omega arith))

  -- and all of that level
  pub oldest-level : (ps : List P) (v : ℕ) (vs : List ℕ) → falls ps ≡ true → due_at v ≤ of_level level v ps → every (λ q. eqb (level q) v) (oldest level (v ∷ vs) ps) ≡ true
  oldest-level ps v vs f h =
      rw (← take-take (due_at v) (of_level level v ps) (drop (oldest_at level v ps) ps) h, ← (run v ps f).0)
      (every_take (λ q. eqb (level q) v) (due_at v) (keep (λ q. eqb (level q) v) ps) (every-kept (λ q. eqb (level q) v) ps))
