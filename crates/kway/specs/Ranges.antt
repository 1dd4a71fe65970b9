-- Sums of several groups of lists under one key, and their range.
use Rattle.std.specs.Prelude.{Bool, true, ◌&&◌, List, [], ◌∷◌, ℤ, pos, ◌+ℤ◌}
use Rattle.partitions.specs.Formed.{in_range}

-- the groups' sums added up
abbrev pub total_z : List ℤ → ℤ
total_z [] = pos 0
total_z (z ∷ zs) = z +ℤ total_z zs

-- the first group's sum is in range, and so is that of all
abbrev pub in_ranges : List ℤ → Bool
in_ranges [] = true
in_ranges (z ∷ zs) = in_range z && in_range (z +ℤ total_z zs)
