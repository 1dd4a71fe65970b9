-- The walk as a whole computes the definition.
use Rattle.lists.proofs.Prelude.{Bool, true, false, cond, ◌&&◌, ◌||◌, not, and-true, List, [], ◌∷◌, ◌++◌, map, append_assoc, ◌≡◌, refl, sym, ap, ap₂, ◌∙◌, ℕ, zero, suc, ◌<◌, ◌≤◌, arith, eqb, leb, ℤ, ◌+ℤ◌, +ℤ_idr, length, length-append, le-leb, lt-leb, leb-false, AllOf, by-test, append-nil, cond_same, and-false}
use Rattle.keyed.specs.Keys.{Item, sums, over_keys, head_val, head_vals, head_fine, heads_fine}
use Rattle.keyed.specs.Groups.{Group, top_all, all_fall_all, move_all, heads_fine_all}
use Rattle.keyed.proofs.Walk.{over_none}
use Rattle.keyed.proofs.Groups as G
use Rattle.postings.specs.declared.Posting.{Posting}
use Rattle.postings.specs.Merge.{is_zero}
use Rattle.kway.specs.Ranges.{total_z, in_ranges}
use Rattle.kway.proofs.Ranges.{total-none, quiet}
use Rattle.scans.specs.Keys.{key_window}
use Rattle.sums.proofs.Tally.{Tally, faulty, tallied, total_at, checked, gathered, window_checked, window_gathered, tally_if, tally_of, kept_of}

-- ---- more counts after those so far

-- what is faulty stays so
tally-faulty : (t b : Bool) (l m : List Posting) → tally_if t l ≡ faulty → tally_if (t && b) (l ++ m) ≡ faulty
unfolding tally_if
tally-faulty false b l m e = refl
tally-faulty true b l m e =
    by-test (leb (length l) 64)
    (λ y. let q : tallied l ≡ faulty = rw y at e in let z : ◌≡◌ {A = ℕ} 0 1 = cc in absurd (omega arith))
    (λ n. let h = leb-false (length l) 64 n in rw (lt-leb (length (l ++ m)) 64 (omega (arith, length-append l m))) (rw (and-false b)))

-- else the counts so far are told
tally-told : (t : Bool) (l ds : List Posting) → tally_if t l ≡ tallied ds → (t ≡ true) × (ds ≡ l)
unfolding tally_if
tally-told false l ds e = let z : ◌≡◌ {A = ℕ} 0 1 = cc in absurd (omega arith)
tally-told true l ds e =
    by-test (leb (length l) 64)
    (λ y. let q : tallied l ≡ tallied ds = rw y at e in (refl, cc))
    (λ n. let q : faulty ≡ tallied ds = rw n at e in let z : ◌≡◌ {A = ℕ} 0 1 = cc in absurd (omega arith))

module _ (w : ℕ) where
  -- both at once: the test of the window's sums, and its counts
  abbrev pub tallying : ℕ → List ℤ → Bool × List Posting → Bool × List Posting
  tallying k v x = (checked w k v x.0, gathered w k v x.1)

  -- sums of 0 change nothing
  pub still : (k : ℕ) (v : List ℤ) (x : Bool × List Posting) → AllOf G.Zero v → tallying k v x ≡ x
  still k v x z = by-test (eqb (key_window k) w) (λ y. rw (y, quiet v z, total-none v z)) (λ n. rw n)

  -- every sum of another window may be whatever it is
  abbrev pub any_sum : List ℤ → Bool
  any_sum v = true

  -- what is told, where cs are the counts so far and groups with keys below m are left
  abbrev pub resume : ℕ → List Posting → List Group → Tally
  resume m cs gs = G.resume_all any_sum (λ v z. refl) tallying (true, []) still faulty (λ (x : Bool × List Posting). tally_if x.0 (cs ++ x.1)) m gs

  over-both : (m : ℕ) (S : ℕ → List ℤ) → over_keys tallying (true, []) m S ≡ (over_keys (checked w) true m S, over_keys (gathered w) [] m S)
  unfolding over_keys
  over-both zero S = refl
  over-both (suc m) S = ap (tallying m (S m)) (over-both m S)

  begun : (m : ℕ) (gs : List Group) → cond (all_fall_all m gs) (tally_if (over_keys (checked w) true m (λ k. map (sums k) gs)) (over_keys (gathered w) [] m (λ k. map (sums k) gs))) faulty ≡ resume m [] gs
  unfolding G.resume_all
  begun m gs =
      rw (over_none (λ (k : ℕ) (v : List ℤ) (b : Bool). b) true m (λ k. map (sums k) gs) (λ j r. refl), and-true (all_fall_all m gs), over-both m (λ k. map (sums k) gs))

  -- at the start all is left
  pub start : (gs : List Group) → tally_of w gs ≡ resume 67108864 [] gs
  unfolding tally_of window_checked window_gathered
  start gs = begun 67108864 gs

  module _ (m : ℕ) (cs : List Posting) (gs : List Group) where
    -- where nothing is left, the counts so far are told
    pub ended : top_all 0 gs ≡ 0 → length cs ≤ 64 → resume m cs gs ≡ tallied cs
    unfolding tally_if
    ended e h =
        G.ended-all any_sum (λ v z. refl) tallying (true, []) still faulty (λ (x : Bool × List Posting). tally_if x.0 (cs ++ x.1)) m gs e
        ∙ rw (append-nil cs, le-leb (length cs) 64 h)

    -- a head that reaches a key that was passed
    pub too-high : m < top_all 0 gs → resume m cs gs ≡ faulty
    too-high h = G.too-high-all any_sum (λ v z. refl) tallying (true, []) still faulty (λ (x : Bool × List Posting). tally_if x.0 (cs ++ x.1)) m gs h

    module _ (k : ℕ) (top : top_all 0 gs ≡ suc k) (low : suc k ≤ m) where
      -- a head that is not well formed
      pub ill-formed : heads_fine_all k gs ≡ false → resume m cs gs ≡ faulty
      ill-formed e = G.not-formed-all any_sum (λ v z. refl) tallying (true, []) still faulty (λ (x : Bool × List Posting). tally_if x.0 (cs ++ x.1)) m gs k top low e

      module _ (fine : heads_fine_all k gs ≡ true) where
        on : (g : Bool × List Posting → Tally) → ((x : Bool × List Posting) → tally_if (tallying k (map (head_vals k) gs) x).0 (cs ++ (tallying k (map (head_vals k) gs) x).1) ≡ g x)
            → resume m cs gs ≡ G.resume_all any_sum (λ v z. refl) tallying (true, []) still faulty g k (move_all k gs)
        on g e =
            G.went-on-all any_sum (λ v z. refl) tallying (true, []) still faulty (λ (x : Bool × List Posting). tally_if x.0 (cs ++ x.1)) m gs k top low fine refl
            ∙ G.resume-all-same any_sum (λ v z. refl) tallying (true, []) still faulty (λ (x : Bool × List Posting). tally_if (tallying k (map (head_vals k) gs) x).0 (cs ++ (tallying k (map (head_vals k) gs) x).1)) g e k (move_all k gs)

        abbrev test : Bool
        test = not (eqb (key_window k) w) || in_ranges (map (head_vals k) gs)

        abbrev new : List Posting
        new = cond (eqb (key_window k) w && not (is_zero (total_z (map (head_vals k) gs)))) (total_at k (total_z (map (head_vals k) gs)) ∷ []) []

        apart : (l : List Posting) → cs ++ gathered w k (map (head_vals k) gs) l ≡ (cs ++ new) ++ l
        apart l =
            by-test (eqb (key_window k) w && not (is_zero (total_z (map (head_vals k) gs))))
            (λ y. rw y (sym (append_assoc cs (total_at k (total_z (map (head_vals k) gs)) ∷ []) l)))
            (λ n. rw (n, append-nil cs))

        constant : (x : Tally) (m : ℕ) (hs : List Group) → x ≡ faulty → G.resume_all any_sum (λ v z. refl) tallying (true, []) still faulty (λ (y : Bool × List Posting). x) m hs ≡ faulty
        unfolding G.resume_all
        constant x m hs e = rw e (cond_same (all_fall_all m hs && over_keys (λ (k : ℕ) (v : List ℤ) (b : Bool). b) true m (λ j. map (sums j) hs)) faulty)

        -- a sum out of range, or a 65th count
        pub refused : tally_if test (cs ++ new) ≡ faulty → resume m cs gs ≡ faulty
        refused e =
            on (λ x. faulty) (λ x. ap (tally_if (test && x.0)) (apart x.1) ∙ tally-faulty test x.0 (cs ++ new) x.1 e)
            ∙ constant faulty k (move_all k gs) refl

        -- the walk goes on, with a count more or without
        pub went_on : (ds : List Posting) → tally_if test (cs ++ new) ≡ tallied ds → resume m cs gs ≡ resume k ds (move_all k gs)
        went_on ds e =
            let t = tally-told test (cs ++ new) ds e in
            on (λ x. tally_if x.0 (ds ++ x.1))
            (λ x. ap (tally_if (test && x.0)) (apart x.1) ∙ ap₂ tally_if (ap (λ (b : Bool). b && x.0) t.0) (ap (λ (l : List Posting). l ++ x.1) (sym t.1)))

-- ---- a group of lists beside a group of one

module _ (w k : ℕ) (g : Group) (l : List Item) (fine : head_fine k l ≡ true) where
  abbrev pair : List Group
  pair = g ∷ (l ∷ []) ∷ []

  -- the second is well formed, so that the first decides
  pub fine-pair : heads_fine_all k pair ≡ heads_fine k g
  fine-pair = rw (fine, and-true (heads_fine k g))

  -- what is told of the sums is told of both groups
  pub kept_pair : (sum total : ℤ) (cs : List Posting) → sum ≡ head_vals k g → total ≡ sum +ℤ head_val k l
      → kept_of w k sum total cs ≡ tally_if (not (eqb (key_window k) w) || in_ranges (map (head_vals k) pair))
      (cs ++ cond (eqb (key_window k) w && not (is_zero (total_z (map (head_vals k) pair)))) (total_at k (total_z (map (head_vals k) pair)) ∷ []) [])
  unfolding kept_of
  kept_pair sum total cs s t = rw (t, s, +ℤ_idr (head_val k l), +ℤ_idr (head_val k l))
