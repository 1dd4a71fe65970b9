-- The highest due level, as code finds it, and the part of the list that is merged.
use Rattle.lists.proofs.Prelude.{Bool, true, false, cond, List, [], ◌∷◌, ◌++◌, append-nil, ◌≡◌, ap, ◌∙◌, ℕ, ◌+◌, ◌-◌, ◌≤◌, arith, eqb, length, take, drop, length-drop, drop_of_length-le}
use Rattle.state.specs.declared.Partition.{Partition}
use Rattle.std.proofs.Common.{Some, slice_get}
use Rattle.state.specs.Views.{finished, partitions_of, no_partition}
use Rattle.state.specs.Levels.{due_at, due_levels, oldest_at}
use Rattle.state.proofs.Rows.{held}
use Rattle.levels.proofs.Runs.{due-first, place-within}

-- a partition's level
abbrev pub level_of : Partition → ℕ
level_of p = p.level

-- the highest due level is v
pub record DueIs (ps : List Partition) (v : ℕ) : Type 0 where
  pub others : List ℕ
  pub first : due_levels level_of ps ≡ v ∷ others

-- a level found
pub due-is : (ps : List Partition) (v : ℕ) → Some v ≡ slice_get (due_levels level_of ps) 0 → DueIs ps v
due-is ps v e = let f = found (due_levels level_of ps) e in record { others = f.0; first = f.1 }
  where
    found : (l : List ℕ) → Some v ≡ slice_get l 0 → (vs : List ℕ) × (l ≡ v ∷ vs)
    found [] e = absurd (cc)
    found (u ∷ vs) e = let f : u ≡ v = cc in (vs, rw f)

module _ (ps : List Partition) (v : ℕ) (d : DueIs ps v) where
  pub due-within : oldest_at level_of v ps + due_at v ≤ length ps
  due-within = omega (arith, (due-first level_of ps v d.others d.first).1, place-within level_of v ps)

-- at least one is merged
pub due-some : (v : ℕ) → 1 ≤ due_at v
due-some v = go (eqb v 5)
  where
    go : (t : Bool) → 1 ≤ cond t 3 8
    go true = omega arith
    go false = omega arith

-- A part of the list -------------------------------------------------------------------------------------------------------

-- what stands in a list as it is kept
pub finished-of : (l : List Partition) → finished (partitions_of l) ≡ l
finished-of l = held 51 no_partition l

-- the front of a list
pub front_cut : (l : List Partition) (end used : ℕ) → length l ≡ used → take end l ++ drop (used - end) (drop end l) ≡ take end l
front_cut l end used e =
    let h : length (drop end l) ≤ used - end = omega (arith, length-drop end l) in
    ap (λ (r : List Partition). take end l ++ r) (drop_of_length-le (drop end l) h) ∙ append-nil (take end l)
