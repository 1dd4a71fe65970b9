-- What the terms of a query weigh under a window.
use Rattle.std.specs.Prelude.{List, [], ◌∷◌, map, ℕ, ◌+◌, ◌*◌, ℤ}
use Rattle.keyed.specs.Keys.{rest, head_vals}
use Rattle.keyed.specs.Groups.{Group}
use Rattle.weights.specs.Weights.{tf_weight}
use Rattle.postings.specs.Sums.{above}
use Rattle.scores.specs.Terms.{Term}

-- the terms' lists, and their weights
abbrev pub groups_in : List Term → List Group
groups_in ts = map (λ (t : Term). t.lists) ts

abbrev pub weights_in : List Term → List ℕ
weights_in ts = map (λ (t : Term). t.weight) ts

-- a term past the window k
abbrev pub moved : ℕ → Term → Term
moved k t = record { lists = map (rest k) t.lists; weight = t.weight }

-- what several sums weigh together, each by its own weight
abbrev pub weigh_all : List ℕ → List ℤ → ℕ
weigh_all [] v = 0
weigh_all (w ∷ ws) [] = 0
weigh_all (w ∷ ws) (z ∷ v) = tf_weight (above z) * w + weigh_all ws v

-- what a term's heads with the window k weigh
abbrev pub weigh : ℕ → Term → ℕ
weigh k t = tf_weight (above (head_vals k t.lists)) * t.weight

-- the score of the window k, the greatest at any head
abbrev pub score_at : ℕ → List Term → ℕ
score_at k ts = weigh_all (weights_in ts) (map (head_vals k) (groups_in ts))
