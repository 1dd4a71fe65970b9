-- The inputs of a merge stay the same while partitions of level 0 come last in the list, for partitions of whatever kind that have a level.
use Rattle.lists.proofs.Prelude.{Bool, true, false, cond, List, [], ◌∷◌, ◌++◌, ◌≡◌, refl, ap, ◌∙◌, ℕ, zero, suc, ◌+◌, ◌<◌, ◌≤◌, arith, eqb, leb, length, drop, length-drop, take-append-le, drop-append-le, eqb-true, eqb-false, ne_eqb, le-leb, lt-leb, keep, below, by-test}
use Rattle.state.specs.Levels.{due_at, of_level, due_levels, oldest_at, oldest}
use Rattle.levels.proofs.Counts.{levels-below}
use Rattle.levels.proofs.Runs.{due-first, place-within}
use Rattle.levels.proofs.Replaced.{count-append}

-- a list that begins with v
pub record Begins (v : ℕ) (l : List ℕ) : Type 0 where
  pub others : List ℕ
  pub is : l ≡ v ∷ others

-- the highest number below n that passes a test is the first of those kept
kept-begins : (t : ℕ → Bool) (n v : ℕ) → v < n → t v ≡ true → ((u : ℕ) → v < u → u < n → t u ≡ false) → Begins v (keep t (below n))
unfolding below
kept-begins t zero v low y none = absurd (omega arith)
kept-begins t (suc n) v low y none =
    by-test (eqb v n)
    (λ e. let same = eqb-true v n e in record { others = keep t (below n); is = rw (← same, y) })
    (λ d. let apart = eqb-false v n d in
    let r = kept-begins t n v (omega arith) y (λ u a b. none u a (omega arith)) in
    record { others = r.others; is = rw (none n (omega arith) (omega arith)) r.is })

-- as many as make a level due are at least one
pub due-some : (v : ℕ) → 1 ≤ due_at v
due-some v = by-test (eqb v 5) (λ y. rw y (omega arith)) (λ n. rw n (omega arith))

module _ {P : Type 0} (level : P → ℕ) where
  -- a level that is there keeps its place when partitions come last
  place-added : (v : ℕ) (ps qs : List P) → 1 ≤ of_level level v ps → oldest_at level v (ps ++ qs) ≡ oldest_at level v ps
  place-added v [] qs h = absurd (omega arith)
  place-added v (p ∷ ps) qs h =
      by-test (eqb (level p) v) (λ y. rw y) (λ n. rw (n, place-added v ps qs (rw n at h)))

  -- one partition of level 0 more
  pub count-added : (u : ℕ) (ps : List P) (q : P) → level q ≡ 0 → of_level level u (ps ++ (q ∷ [])) ≡ of_level level u ps + cond (eqb 0 u) 1 0
  count-added u ps q z = count-append level u ps (q ∷ []) ∙ ap (λ n. of_level level u ps + n) (rw z (one (eqb 0 u)))
    where
      one : (t : Bool) → length {A = P} (cond t (q ∷ []) []) ≡ cond t 1 0
      one true = refl
      one false = refl

  module _ (ps : List P) (q : P) (z : level q ≡ 0) (v : ℕ) (vs : List ℕ) (due : due_levels level ps ≡ v ∷ vs) where
    -- the highest due level is the same
    pub due-added : Begins v (due_levels level (ps ++ (q ∷ [])))
    due-added =
        let f = due-first level ps v vs due in
        let top : v ≤ 5 = f.0 in
        let t : ℕ → Bool = λ u. leb (due_at u) (of_level level u (ps ++ (q ∷ []))) in
        let r =
        kept-begins t 6 v (omega arith)
        (le-leb (due_at v) (of_level level v (ps ++ (q ∷ []))) (omega (arith, f.1, count-added v ps q z)))
        (λ u a b. lt-leb (due_at u) (of_level level u (ps ++ (q ∷ []))) (rw (count-added u ps q z, ne_eqb 0 u (λ e. omega arith)) (omega (arith, f.2 u a (omega arith))))) in
        record { others = r.others; is = ap (keep t) levels-below ∙ r.is }

    -- and so are its oldest
    pub oldest-added : oldest level (due_levels level (ps ++ (q ∷ []))) (ps ++ (q ∷ [])) ≡ oldest level (due_levels level ps) ps
    oldest-added =
        let f = due-first level ps v vs due in
        let enough : due_at v ≤ of_level level v ps = f.1 in
        let some = due-some v in
        let at = place-within level v ps in
        rw (due-added.is, due, place-added v ps (q ∷ []) (omega arith), drop-append-le (oldest_at level v ps) ps (q ∷ []) (omega arith))
        (take-append-le (due_at v) (drop (oldest_at level v ps) ps) (q ∷ []) (omega (arith, length-drop (oldest_at level v ps) ps)))
