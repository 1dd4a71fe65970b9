-- Marks on blocks: a bit for each of 4,096.
use Rattle.std.specs.Prelude.{Bool, true, not, ◌||◌, ◌&&◌, ◌≡◌, List, ℕ, ◌/◌, ◌%◌, ◌^◌, eqb, get_or}
use Rattle.lists.specs.Lists.{every, different, elem}
use Rattle.card.specs.declared.Marks.{Marks}

-- bit k of numbers of d bits each: bit k % d of number k / d
abbrev pub bit_of : ℕ → List ℕ → ℕ → Bool
bit_of d l k = eqb (get_or l (k / d) 0 / 2 ^ (k % d) % 2) 1

-- is block b marked
unfoldable pub marked : Marks → ℕ → Bool
marked m b = bit_of 64 m.bits b

-- is no block marked, and none in the list twice
abbrev pub unmarked : Marks → List ℕ → Bool
unmarked m l = different l && every (λ b. not (marked m b)) l

-- the blocks of the list had no mark and are all different, and r has their marks too
pub record Joins (m : Marks) (l : List ℕ) (r : Marks) : Type 0 where
  pub apart : unmarked m l ≡ true
  pub marks : (b : ℕ) → marked r b ≡ (marked m b || elem b l)
