-- The rule of a table by which logarithms in sixteenths are looked up.
use Rattle.std.specs.Prelude.{Bool, ◌&&◌, List, ℕ, ◌-◌, ◌^◌, eqb, ltb, leb, length, get_or}
use Rattle.lists.specs.Lists.{every, up_to}

-- x is the smallest number with x ^ 16 at least 2 ^ a: its power is, and that of the number before is not
unfoldable pub is_threshold : ℕ → ℕ → Bool
is_threshold a x = leb (2 ^ a) (x ^ 16) && ltb ((x - 1) ^ 16) (2 ^ a)

-- a table of 256 numbers of which entry a is that number
unfoldable pub thresholds : List ℕ → Bool
thresholds l = eqb (length l) 256 && every (λ a. is_threshold a (get_or l a 0)) (up_to 256)
