-- Query and mean by number and by name, over windows that differ in such alone in which nothing counts, find the same.
use Rattle.lists.proofs.Prelude.{Bool, true, false, ◌||◌, ◌&&◌, cond, List, [], ◌∷◌, foldr, map, ◌≡◌, refl, sym, ap, ap₂, ◌∙◌, fun_ext, ℕ, ◌+◌, ◌*◌, arith, ltb, ltb-false, length, get_or, take, keep, any, every, total_by, by-test, any_none, keep-both, keep-agree, map-kept}
use Rattle.weights.specs.Weights.{tf_weight, idf_weight}
use Rattle.answers.specs.declared.Hit.{Hit}
use Rattle.identifiers.specs.Names.{Name, among, numbers_of}
use Rattle.identifiers.proofs.Names.{number_at}
use Rattle.ranking.specs.Hits.{place, frequency, score, matching, ranked}
use Rattle.averages.specs.Average.{total}
use Rattle.accounts.proofs.Numbers.{known_is}

-- ---- windows in which nothing counts do not matter

-- two lists of windows that differ in such alone: a test that they do not pass keeps the same of both
abbrev pub SameCounted : {I : Type 0} → (I → ℕ → ℕ) → List ℕ → List ℕ → Type 0
SameCounted {I} count ws vs = (t : ℕ → Bool) → ((v : ℕ) → ((i : I) → count i v ≡ 0) → t v ≡ false) → keep t ws ≡ keep t vs

module _ {I : Type 0} (count : I → ℕ → ℕ) (ws vs : List ℕ) (h : SameCounted count ws vs) where
  -- the same of both kept by any test
  pub counted-kept : (p : ℕ → Bool) → SameCounted count (keep p ws) (keep p vs)
  counted-kept p t silent =
      sym (keep-both t p both (λ v. refl) ws) ∙ h both (λ v z. rw (silent v z)) ∙ keep-both t p both (λ v. refl) vs
    where
      both : ℕ → Bool
      both v = t v && p v

  -- the windows in which an identifier counts
  counted-windows : (i : I) → keep (λ w. ltb 0 (count i w)) ws ≡ keep (λ w. ltb 0 (count i w)) vs
  counted-windows i = h (λ w. ltb 0 (count i w)) (λ v z. ap (ltb 0) (z i))

  pub frequency-windows : (i : I) → frequency count ws i ≡ frequency count vs i
  unfolding frequency
  frequency-windows i = ap length (counted-windows i)

  -- the others add nothing
  total-counted : (i : I) (l : List ℕ) → total_by (count i) (keep (λ w. ltb 0 (count i w)) l) ≡ total_by (count i) l
  total-counted i [] = refl
  total-counted i (w ∷ l) =
      by-test (ltb 0 (count i w)) (λ y. rw (y, total-counted i l)) (λ y. let n = ltb-false 0 (count i w) y in rw (y, total-counted i l) (omega arith))

  pub total-windows : (i : I) → total count ws i ≡ total count vs i
  unfolding total
  total-windows i = sym (total-counted i ws) ∙ ap (total_by (count i)) (counted-windows i) ∙ total-counted i vs

  pub ranked-windows : (n k : ℕ) (is : List I) → ranked n count ws k is ≡ ranked n count vs k is
  unfolding ranked matching score
  ranked-windows n k is =
      ap₂ (λ (fr : I → ℕ) (fo : List ℕ). take k (foldr place [] (map (λ w. record { window = w; score = total_by (λ i. cond (ltb 0 (count i w)) (tf_weight (count i w) * idf_weight n (fr i)) 0) is }) fo)))
      (fun_ext frequency-windows)
      (h (λ w. any (λ i. ltb 0 (count i w)) is) (λ v z. any_none (λ i. ltb 0 (count i v)) (λ i. ap (ltb 0) (z i)) is))

-- ---- nor do counts outside the windows looked at

pub ranked-agree : {I : Type 0} (n : ℕ) (count others : I → ℕ → ℕ) (p : ℕ → Bool) (ws : List ℕ) (k : ℕ) (is : List I) → every p ws ≡ true → ((i : I) (v : ℕ) → p v ≡ true → count i v ≡ others i v)
    → ranked n count ws k is ≡ ranked n others ws k is
unfolding ranked matching score frequency
ranked-agree {I} n count others p ws k is within e =
    ap (λ (l : List Hit). take k (foldr place [] l))
    (map-kept _ _ _ _ p ws within
    (λ v h. ap (λ (t : I → Bool). any t is) (fun_ext λ i. ap (ltb 0) (e i v h)))
    (λ v h. ap {B = Hit} (λ (g : I → ℕ). record { window = v; score = total_by g is })
    (fun_ext λ i. ap₂ (λ (c f : ℕ). cond (ltb 0 c) (tf_weight c * idf_weight n f) 0) (e i v h)
    (ap length (keep-agree (λ w. ltb 0 (count i w)) (λ w. ltb 0 (others i w)) p (λ w l. ap (ltb 0) (e i w l)) ws within)))))

-- ---- identifiers that the register does not have add nothing

any-query : (t : Name → Bool) (ms ns : List Name) → ((n : Name) → among n ms ≡ false → t n ≡ false) → any (λ i. t (get_or ms i [])) (numbers_of ms ns) ≡ any t ns
unfolding numbers_of
any-query t ms [] z = refl
any-query t ms (n ∷ ns) z =
    by-test (among n ms)
    (λ y. rw (known_is ms n, y) (ap₂ ◌||◌ (ap t (number_at ms n y)) (any-query t ms ns z)))
    (λ e. rw (known_is ms n, e, z n e) (any-query t ms ns z))

total-query : (g : Name → ℕ) (ms ns : List Name) → ((n : Name) → among n ms ≡ false → g n ≡ 0) → total_by (λ i. g (get_or ms i [])) (numbers_of ms ns) ≡ total_by g ns
unfolding numbers_of
total-query g ms [] z = refl
total-query g ms (n ∷ ns) z =
    by-test (among n ms)
    (λ y. rw (known_is ms n, y) (ap₂ ◌+◌ (ap g (number_at ms n y)) (total-query g ms ns z)))
    (λ e. rw (known_is ms n, e, z n e) (total-query g ms ns z ∙ omega arith))

-- what counts nowhere has no window, and no sum
module _ {I : Type 0} (count : I → ℕ → ℕ) (i : I) (z : (w : ℕ) → count i w ≡ 0) where
  pub frequency-none : (windows : List ℕ) → frequency count windows i ≡ 0
  unfolding frequency
  frequency-none [] = refl
  frequency-none (w ∷ windows) = rw (z w) (frequency-none windows)

  pub total-none : (windows : List ℕ) → total count windows i ≡ 0
  unfolding total
  total-none [] = refl
  total-none (w ∷ windows) = rw (z w, total-none windows)

-- what f tells of an identifier's number, and nothing without one, is what g tells of its name
pub one-query : (f : ℕ → ℕ) (g : Name → ℕ) (ms : List Name) (n : Name) → ((i : ℕ) → f i ≡ g (get_or ms i [])) → ((m : Name) → among m ms ≡ false → g m ≡ 0) → total_by f (numbers_of ms (n ∷ [])) ≡ g n
one-query f g ms n same z = ap (λ (h : ℕ → ℕ). total_by h (numbers_of ms (n ∷ []))) (fun_ext same) ∙ total-query g ms (n ∷ []) z ∙ omega arith

pub ranked-names : (N : ℕ) (count : Name → ℕ → ℕ) (ms ns : List Name) (windows : List ℕ) (k : ℕ) → ((n : Name) (w : ℕ) → among n ms ≡ false → count n w ≡ 0)
    → ranked N (λ i w. count (get_or ms i []) w) windows k (numbers_of ms ns) ≡ ranked N count windows k ns
unfolding ranked matching score frequency
ranked-names N count ms ns windows k z =
    ap₂ (λ (sc : ℕ → ℕ) (fo : List ℕ). take k (foldr place [] (map (λ w. record { window = w; score = sc w }) fo)))
    (fun_ext λ w. total-query (λ n. cond (ltb 0 (count n w)) (tf_weight (count n w) * idf_weight N (length (keep (λ v. ltb 0 (count n v)) windows))) 0) ms ns
    (λ n h. ap (λ c. cond (ltb 0 c) (tf_weight c * idf_weight N (length (keep (λ v. ltb 0 (count n v)) windows))) 0) (z n w h)))
    (ap (λ t. keep t windows) (fun_ext λ w. any-query (λ n. ltb 0 (count n w)) ms ns (λ n h. ap (ltb 0) (z n w h))))
