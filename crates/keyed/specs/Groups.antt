-- Several groups of lists, as the lists of each identifier of a query: each group has its own sum of a key.
use Rattle.std.specs.Prelude.{Bool, true, ◌&&◌, List, [], ◌∷◌, map, ℕ, max}
use Rattle.keyed.specs.Keys.{Item, all_fall, topmost_from, rest, heads_fine}

-- the lists of one group
abbrev pub Group : Type 0
Group = List (List Item)

-- the greatest key at any head of any group
abbrev pub top_all : ℕ → List Group → ℕ
top_all t [] = t
top_all t (g ∷ gs) = top_all (max t (topmost_from 0 g)) gs

-- every list of every group falls
abbrev pub all_fall_all : ℕ → List Group → Bool
all_fall_all m [] = true
all_fall_all m (g ∷ gs) = all_fall m g && all_fall_all m gs

-- every list of every group moved past the key k
abbrev pub move_all : ℕ → List Group → List Group
move_all k gs = map (λ (g : Group). map (rest k) g) gs

-- every head with the key k is well formed
abbrev pub heads_fine_all : ℕ → List Group → Bool
heads_fine_all k [] = true
heads_fine_all k (g ∷ gs) = heads_fine k g && heads_fine_all k gs
