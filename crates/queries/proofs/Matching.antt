-- From terms that stand for the query's identifiers to the query's hits.
use Rattle.lists.proofs.Prelude.{Bool, true, false, cond, ◌&&◌, ◌||◌, List, [], ◌∷◌, foldr, map, ◌≡◌, refl, ap, ap₂, ◌∙◌, ℕ, zero, suc, ◌+◌, ◌*◌, arith, ltb, ℤ, take, ltb-false, keep, any, every, total_by, down, by-test, and_both, keep-both}
use Rattle.keyed.specs.Keys.{sums, all_fall, over_keys}
use Rattle.keyed.specs.Groups.{all_fall_all}
use Rattle.weights.specs.Weights.{tf_weight, idf_weight}
use Rattle.weights.proofs.Laws.{tf-none}
use Rattle.postings.specs.declared.Stretch.{Stretch}
use Rattle.postings.specs.Sums.{sum, above, is_above}
use Rattle.postings.specs.Sums as S
use Rattle.answers.specs.declared.Hit.{Hit}
use Rattle.state.specs.declared.State.{State}
use Rattle.state.specs.Shown.{shows_in, shown_in}
use Rattle.partitions.specs.Reading.{stored}
use Rattle.partitions.specs.Formed.{in_range}
use Rattle.scores.specs.Terms.{Term, Serves}
use Rattle.scores.specs.Scores.{groups_in, weights_in, weigh_all}
use Rattle.ranking.specs.Hits.{place, frequency, score, matching, ranked}
use Rattle.queries.specs.Query.{count_in, hits_of}
use Rattle.queries.specs.Walks.{found_at, found_by, found_in}
use Rattle.queries.specs.Gathered.{Serving, none, more}

-- a count of 0 weighs nothing
weighed-or-none : (c x : ℕ) → tf_weight c * x ≡ cond (ltb 0 c) (tf_weight c * x) 0
weighed-or-none c x = by-test (ltb 0 c) (λ y. rw y) (λ n. let h = ltb-false 0 c n in let e : c ≡ 0 = omega arith in rw (n, e, tf-none) (omega arith))

module _ (W : List ℕ) (s : State) (st : Stretch) (live : ℕ) where
  -- ---- terms that stand for identifiers can be merged

  pub served-falls : (is : List ℕ) (ts : List Term) → Serving W s st live is ts → all_fall_all 65536 (groups_in ts) ≡ true
  served-falls [] [] none = refl
  served-falls [] (t ∷ ts) x = elim x [ ]
  served-falls (i ∷ is) [] x = elim x [ ]
  served-falls (i ∷ is) (t ∷ ts) (more v r) = and_both (all_fall 65536 t.lists) _ v.falls (served-falls is ts r)

  pub served-ranges : (w : ℕ) (is : List ℕ) (ts : List Term) → Serving W s st live is ts → every in_range (map (sums w) (groups_in ts)) ≡ true
  served-ranges w [] [] none = refl
  served-ranges w [] (t ∷ ts) x = elim x [ ]
  served-ranges w (i ∷ is) [] x = elim x [ ]
  served-ranges w (i ∷ is) (t ∷ ts) (more v r) = and_both (in_range (sums w t.lists)) _ (ap in_range (v.totals w) ∙ v.ranges w) (served-ranges w is ts r)

  -- ---- what they count and weigh

  served-any : (w : ℕ) (is : List ℕ) (ts : List Term) → Serving W s st live is ts → any is_above (map (sums w) (groups_in ts)) ≡ any (λ i. ltb 0 (count_in W s i w)) is
  unfolding count_in
  served-any w [] [] none = refl
  served-any w [] (t ∷ ts) x = elim x [ ]
  served-any w (i ∷ is) [] x = elim x [ ]
  served-any w (i ∷ is) (t ∷ ts) (more v r) = ap₂ ◌||◌ (ap is_above (v.totals w)) (served-any w is ts r)

  -- what an identifier adds to the score of a window
  abbrev adds : ℕ → ℕ → ℕ
  adds w i = cond (ltb 0 (count_in W s i w)) (tf_weight (count_in W s i w) * idf_weight live (frequency (count_in W s) (shown_in st s.windows) i)) 0

  served-one : (w i : ℕ) (t : Term) → Serves W s st live i t → tf_weight (above (sums w t.lists)) * t.weight ≡ adds w i
  unfolding count_in frequency S.frequency
  served-one w i t v = rw (v.totals w, v.weight) (weighed-or-none (above (sum (stored W s) i w)) _)

  served-score : (w : ℕ) (is : List ℕ) (ts : List Term) → Serving W s st live is ts → weigh_all (weights_in ts) (map (sums w) (groups_in ts)) ≡ total_by (adds w) is
  served-score w [] [] none = refl
  served-score w [] (t ∷ ts) x = elim x [ ]
  served-score w (i ∷ is) [] x = elim x [ ]
  served-score w (i ∷ is) (t ∷ ts) (more v r) = ap₂ ◌+◌ (served-one w i t v) (served-score w is ts r)

  -- nothing is stored of window 0
  served-none : (is : List ℕ) (ts : List Term) → Serving W s st live is ts → any (λ i. ltb 0 (count_in W s i 0)) is ≡ false
  unfolding count_in
  served-none [] [] none = refl
  served-none [] (t ∷ ts) x = elim x [ ]
  served-none (i ∷ is) [] x = elim x [ ]
  served-none (i ∷ is) (t ∷ ts) (more v r) = rw v.none (served-none is ts r)

-- ---- the windows found are those that show and match

found-down : (shows : ℕ → Bool) (ws : List ℕ) (S : ℕ → List ℤ) (t : ℕ → Bool) (hit : ℕ → ℕ)
    → ((w : ℕ) → (any is_above (S w) && shows w) ≡ t w) → ((w : ℕ) → weigh_all ws (S w) ≡ hit w) → t 0 ≡ false
    → (m : ℕ) → over_keys (found_at shows ws) [] (suc m) S ≡ map (λ w. record { window = w; score = hit w }) (keep t (down m))
unfolding over_keys down
found-down shows ws S t hit a b z zero = rw (a 0, z)
found-down shows ws S t hit a b z (suc m) =
    by-test (t (suc m))
    (λ y. rw (a (suc m), y, b (suc m)) (ap (λ (r : List Hit). record { window = suc m; score = hit (suc m) } ∷ r) (found-down shows ws S t hit a b z m)))
    (λ y. rw (a (suc m), y) (found-down shows ws S t hit a b z m))

-- the best of what is found are the query's hits
pub found-hits : (W : List ℕ) (s : State) (st : Stretch) (live k : ℕ) (is : List ℕ) (ts : List Term) → Serving W s st live is ts
    → take k (foldr place [] (found_in (shows_in st s.windows.current) ts)) ≡ hits_of W s st live k is
unfolding found_by hits_of ranked matching score
found-hits W s st live k is ts v =
    ap (λ (l : List Hit). take k (foldr place [] l))
    (found-down seen (weights_in ts) (λ w. map (sums w) (groups_in ts)) counts (λ w. total_by (adds W s st live w) is)
    (λ w. ap (λ (b : Bool). b && seen w) (served-any W s st live w is ts v)) (λ w. served-score W s st live w is ts v) (ap (λ (b : Bool). b && seen 0) (served-none W s st live is ts v)) 65535
    ∙ ap (map (λ w. record { window = w; score = total_by (adds W s st live w) is })) both)
  where
    -- the windows that show
    seen : ℕ → Bool
    seen = shows_in st s.windows.current

    matches : ℕ → Bool
    matches w = any (λ i. ltb 0 (count_in W s i w)) is

    counts : ℕ → Bool
    counts w = matches w && seen w

    both : keep counts (down 65535) ≡ keep matches (shown_in st s.windows)
    both = unfold shown_in in keep-both matches seen counts (λ w. refl) (down 65535)
