-- What heads have still to come: items by key, each with a key of its own.
use Rattle.lists.proofs.Prelude.{true, List, [], ◌∷◌, map, ◌≡◌, refl, ap, ℕ, every, AllOf, and_both}
use Rattle.keyed.specs.Keys.{Item}
use Rattle.words.specs.Words.{Below}
use Rattle.kway.specs.Parts.{parts}
use Rattle.scans.specs.Keys.{item_of, is_keyed}
use Rattle.scans.specs.Items.{items}
use Rattle.scans.specs.Heads.{reader_at, ahead, view, Kept, views}
use Rattle.scans.proofs.Moves.{reader-keyed}
use Rattle.inputs.specs.Ahead.{posting_lists}

-- the items to come are those of the postings to come
pub items-lists : (W : List ℕ) (n : ℕ) (H : List ℕ) → views W n H ≡ map (map item_of) (posting_lists W n H)
unfolding view items
items-lists W n H = each (parts 10 n H)
  where
    each : (l : List (List ℕ)) → map (view W) l ≡ map (map item_of) (map (ahead W) l)
    each [] = refl
    each (h ∷ l) = ap (λ (x : List (List Item)). map item_of (ahead W h) ∷ x) (each l)

-- every posting to come has a key of its own
pub lists-keyed : (W : List ℕ) → Below 4294967296 W → (n : ℕ) (H : List ℕ) → AllOf (Kept W) (parts 10 n H) → every (every is_keyed) (posting_lists W n H) ≡ true
unfolding AllOf
lists-keyed W small n H kept = each (parts 10 n H) kept
  where
    each : (l : List (List ℕ)) → AllOf (Kept W) l → every (every is_keyed) (map (ahead W) l) ≡ true
    each [] g = refl
    each (h ∷ l) g = and_both _ _ (reader-keyed W small (reader_at h) g.0.good) (each l g.1)
