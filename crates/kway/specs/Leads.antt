-- The list that leads, and the others.
use Rattle.std.specs.Prelude.{List, [], ◌≡◌, ℕ, set}
use Rattle.keyed.specs.Keys.{Item, topmost_from}

-- o is one more than the greatest key at any head but that of the list c
abbrev pub Leads : List (List Item) → ℕ → ℕ → Type 0
Leads ls c o = o ≡ topmost_from 0 (set ls c [])
