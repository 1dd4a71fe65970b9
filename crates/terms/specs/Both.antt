-- The lists of one identifier: n on the card, and one of the run after them.
use Rattle.std.specs.Prelude.{List, [], ◌∷◌, ℕ}
use Rattle.lists.specs.All.{AllOf}
use Rattle.keyed.specs.Groups.{Group}
use Rattle.kway.specs.Parts.{part, parts}
use Rattle.heads.specs.Heads.{view, Kept, views}

-- all of them can be read
pub record Ready (W R : List ℕ) (n : ℕ) (H : List ℕ) : Type 0 where
  pub lists : AllOf (Kept W R) (parts 4 n H)
  pub run : Kept W R (part 4 n H)

-- what they have still to come: one group from the card, and one of the run alone
abbrev pub both : List ℕ → List ℕ → ℕ → List ℕ → List Group
both W R n H = views W R n H ∷ (view W R (part 4 n H) ∷ []) ∷ []
