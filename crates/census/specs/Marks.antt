-- Marks on the windows of a stretch: a bit for each, from the first window on, 32 to a number.
use Rattle.std.specs.Prelude.{Bool, true, false, cond, ◌||◌, ◌&&◌, not, List, ◌≡◌, ℕ, ◌+◌, ◌-◌, ◌*◌, ◌≤◌, ◌<◌, eqb, ℤ, length}
use Rattle.postings.specs.declared.Stretch.{Stretch}
use Rattle.postings.specs.Sums.{is_above}
use Rattle.state.specs.Shown.{shows_in}
use Rattle.card.specs.Marks.{bit_of}

-- is window w of the stretch marked
abbrev pub marked : Stretch → List ℕ → ℕ → Bool
marked t M w = bit_of 32 M (w - t.first)

-- every window of the stretch has a mark of its own; no window has the number 0
pub record Covers (t : Stretch) (M : List ℕ) : Type 0 where
  pub some : 1 ≤ t.first
  pub room : t.last < t.first + 32 * length M

-- no window is marked
abbrev pub Unmarked : List ℕ → Type 0
Unmarked M = (k : ℕ) → bit_of 32 M k ≡ false

-- window w, which has the total z under an identifier, is marked where that is above 0 and the window shows in the stretch; r is 1 where it was not marked before
pub record MarkStep (t : Stretch) (o w : ℕ) (z : ℤ) (M : List ℕ) (r : ℕ) (M' : List ℕ) : Type 0 where
  pub long : length M' ≡ length M
  pub marks : (v : ℕ) → shows_in t o v ≡ true → marked t M' v ≡ (marked t M v || (eqb w v && is_above z))
  pub more : r ≡ cond ((shows_in t o w && is_above z) && not (marked t M w)) 1 0
