-- The lowest and the highest window of postings.
use Rattle.std.specs.Prelude.{List, [], ◌∷◌, ℕ, min, max}
use Rattle.postings.specs.declared.Posting.{Posting}

-- the lowest window; of no postings 65,535
unfoldable pub lowest : List Posting → ℕ
lowest [] = 65535
lowest (p ∷ ps) = min p.window (lowest ps)

-- the highest; of no postings 0
unfoldable pub highest : List Posting → ℕ
highest [] = 0
highest (p ∷ ps) = max p.window (highest ps)
