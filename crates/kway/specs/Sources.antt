-- What a source of lists keeps to: w numbers to a head, the first its reach.
use Rattle.std.specs.Prelude.{List, ◌≡◌, ℕ, ◌<◌, ◌≤◌, length, get_or}
use Rattle.keyed.specs.Keys.{Item, reach}

pub record SourceLaws {S : Type 0} (w : ℕ) (kept : S → List ℕ → Type 0) (view : S → List ℕ → List Item) : Type 0 where
  pub some : 0 < w
  pub few : w ≤ 16
  pub long : (s : S) (h : List ℕ) → kept s h → length h ≡ w
  pub top : (s : S) (h : List ℕ) → kept s h → get_or h 0 0 ≡ reach (view s h)
