-- How large a score is at most.
use Rattle.lists.proofs.Prelude.{true, ◌≡◌, List, [], ◌∷◌, ℕ, ◌*◌, ◌≤◌, arith, leb, ltb, leb-true, length, every, by-test, and_left, and_right}
use Rattle.weights.specs.Weights.{idf_weight}
use Rattle.weights.proofs.Laws.{idf-most, product-most}
use Rattle.ranking.specs.Hits.{frequency, score}

-- each identifier adds 240 × 255 at most
module _ {I : Type 0} (n : ℕ) (count : I → ℕ → ℕ) (windows : List ℕ) (w : ℕ) where
  pub score-most : (is : List I) → every (λ i. leb (count i w) 32767) is ≡ true → score n count windows is w ≤ 61200 * length is
  unfolding score
  score-most [] e = omega arith
  score-most (i ∷ is) e =
      let weight = idf_weight n (frequency count windows i) in
      let a = product-most (count i w) weight (leb-true _ _ (and_left _ _ e)) (idf-most n (frequency count windows i)) in
      let r = score-most is (and_right (leb (count i w) 32767) _ e) in
      by-test (ltb 0 (count i w)) (λ y. rw y (omega (arith, a, r))) (λ z. rw z (omega (arith, r)))
