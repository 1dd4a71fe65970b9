-- Identifiers: any bytes, compared over their full length.
use Rattle.std.specs.Prelude.{Bool, true, ◌||◌, ◌&&◌, not, cond, List, [], ◌∷◌, map, ℕ, zero, suc, ltb, length}
use Rattle.lists.specs.Lists.{keep, any, empty, same}

-- an identifier is a list of bytes
abbrev pub Name : Type 0
Name = List ℕ

-- refusal 4: no bytes, or more than 64
unfoldable pub bad_length : Name → Bool
bad_length n = empty n || ltb 64 (length n)

-- is the identifier in the list
abbrev pub among : Name → List Name → Bool
among n ms = any (λ m. same m n) ms

-- is no identifier in the list twice
abbrev pub distinct : List Name → Bool
distinct [] = true
distinct (n ∷ ns) = not (among n ns) && distinct ns

-- an identifier's number: its place, from 0; how many there are where it is not there, which is the number that it would get
abbrev pub number_of : List Name → Name → ℕ
number_of [] n = zero
number_of (m ∷ ms) n = cond (same m n) zero (suc (number_of ms n))

-- the numbers of those identifiers that are there
unfoldable pub numbers_of : List Name → List Name → List ℕ
numbers_of ms ns = keep (λ i. ltb i (length ms)) (map (number_of ms) ns)
