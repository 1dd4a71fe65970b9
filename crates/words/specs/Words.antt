-- A list of bytes seen as little-endian words of four bytes.
use Rattle.std.specs.Prelude.{List, [], ◌∷◌, ℕ, ◌+◌, ◌*◌, ◌/◌, ◌%◌, ◌<◌, get_or}

-- four bytes as one number, the lowest first
abbrev pub joined4 : ℕ → ℕ → ℕ → ℕ → ℕ
joined4 a b c d = a + 256 * b + 65536 * c + 16777216 * d

-- the words of a list, of four bytes each; up to three bytes past the last whole word are left out
unfoldable pub words : List ℕ → List ℕ
words [] = []
words (a ∷ []) = []
words (a ∷ b ∷ []) = []
words (a ∷ b ∷ c ∷ []) = []
words (a ∷ b ∷ c ∷ d ∷ l) = joined4 a b c d ∷ words l

-- the way back: the four bytes of each word, the lowest first
unfoldable pub bytes : List ℕ → List ℕ
bytes [] = []
bytes (w ∷ ws) = w % 256 ∷ w / 256 % 256 ∷ w / 65536 % 256 ∷ w / 16777216 ∷ bytes ws

-- a word of four bytes 255
abbrev pub all_ones : ℕ
all_ones = 4294967295

-- every number of the list is below n; the place is any, as the list reads 0 past its end
abbrev pub Below : ℕ → List ℕ → Type 0
Below n l = (i : ℕ) → get_or l i 0 < n
