-- An order of entries, by which those that are sorted are told apart by comparing neighbours.
use Rattle.std.specs.Prelude.{Bool, true, false, ◌&&◌, ◌||◌, List, [], ◌∷◌, ◌++◌, ◌≡◌, ℕ, suc, ◌<◌, ltb, eqb, get_or}
use Rattle.words.specs.Words.{words}
use Rattle.identifiers.specs.Register.{entries}

-- is the first list lower in the first number in which two lists differ
unfoldable pub lower : List ℕ → List ℕ → Bool
lower [] ys = false
lower (x ∷ xs) [] = false
lower (x ∷ xs) (y ∷ ys) = ltb x y || (eqb x y && lower xs ys)

-- an entry as its words and its last byte
abbrev pub key : List ℕ → List ℕ
key e = words e ++ (get_or e 64 0 ∷ [])

-- is the entry at place i of the register before that at place j; any order in which different entries differ would do
abbrev pub before : List ℕ → ℕ → ℕ → Bool
before r i j = lower (key (get_or (entries r) i [])) (key (get_or (entries r) j []))

-- ranks holds, by place, where it stands in order
abbrev pub Inverse : List ℕ → List ℕ → ℕ → Type 0
Inverse order ranks n = (p : ℕ) → p < n → get_or order (get_or ranks p 0) 0 ≡ p

-- each of the first n in order is before the next
abbrev pub Ascending : List ℕ → List ℕ → ℕ → Type 0
Ascending r order n = (k : ℕ) → suc k < n → before r (get_or order k 0) (get_or order (suc k) 0) ≡ true
