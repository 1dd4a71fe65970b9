-- The list of the best hits as it is held while a query runs, and the place of a hit in it.
use Rattle.std.specs.Prelude.{cond, List, [], ◌∷◌, ◌≡◌, ℕ, suc, ◌≤◌, length, take}
use Rattle.answers.specs.declared.Hit.{Hit}
use Rattle.state.specs.Views.{padded}
use Rattle.ranking.specs.declared.Top.{Top}
use Rattle.ranking.specs.Hits.{outranks}

-- what stands in a place that is not used
abbrev pub no_hit : Hit
no_hit = record { window = 0; score = 0 }

-- the hits in use, best first
abbrev pub listed_hits : Top → List Hit
listed_hits t = take t.used t.hits

-- hits in the one form in which they are held: zeros after them
abbrev pub top_of : List Hit → Top
top_of l = record { used = length l; hits = padded 32 no_hit l }

-- t holds at most as many hits as there are places, 1 to 32, and zeros after them
pub record Held (places : ℕ) (t : Top) : Type 0 where
  pub some : 1 ≤ places
  pub most : places ≤ 32
  pub within : t.used ≤ places
  pub clean : t ≡ top_of (listed_hits t)

-- how many hits stand before the first that g outranks
unfoldable pub rank : Hit → List Hit → ℕ
rank g [] = 0
rank g (h ∷ l) = cond (outranks g h) 0 (suc (rank g l))
