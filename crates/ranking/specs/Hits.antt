-- "Weights": scores, and the order in which hits are listed. Over identifiers of any kind, so that the ledger by names and the engine by numbers
-- share them.
use Rattle.std.specs.Prelude.{Bool, ◌||◌, ◌&&◌, cond, ℕ, ◌*◌, eqb, ltb, length, take}
use mathlib.Core.List.{List, [], ◌∷◌, foldr, map}
use Rattle.lists.specs.Lists.{keep, any, total_by}
use Rattle.weights.specs.Weights.{tf_weight, idf_weight}
use Rattle.answers.specs.declared.Hit.{Hit}

-- does g stand before h: the higher score first, and the higher window number first under one score
abbrev pub outranks : Hit → Hit → Bool
outranks g h = ltb h.score g.score || (eqb h.score g.score && ltb h.window g.window)

-- g put in at its place
abbrev pub place : Hit → List Hit → List Hit
place g [] = g ∷ []
place g (h ∷ hs) = cond (outranks g h) (g ∷ h ∷ hs) (h ∷ place g hs)

-- count is of an identifier in a window; windows are those to look at
module _ {I : Type 0} (count : I → ℕ → ℕ) (windows : List ℕ) where
  -- F: the number of windows in which an identifier's count is above 0
  unfoldable pub frequency : I → ℕ
  frequency i = length (keep (λ w. ltb 0 (count i w)) windows)

-- and n is how many windows exist
module _ {I : Type 0} (n : ℕ) (count : I → ℕ → ℕ) (windows : List ℕ) where
  -- a window's score: over the query's identifiers whose count in it is above 0, the weight of the count times the weight of N and F
  unfoldable pub score : List I → ℕ → ℕ
  score is w = total_by (λ i. cond (ltb 0 (count i w)) (tf_weight (count i w) * idf_weight n (frequency count windows i)) 0) is

  -- the windows in which some identifier counts
  unfoldable pub matching : List I → List ℕ
  matching is = keep (λ w. any (λ i. ltb 0 (count i w)) is) windows

  -- the matching windows by rank, as many as the list has places
  unfoldable pub ranked : ℕ → List I → List Hit
  ranked k is = take k (foldr place [] (map (λ w. record { window = w; score = score is w }) (matching is)))
