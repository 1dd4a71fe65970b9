-- The fields of a line, and the number that a field gives.
use Rattle.std.specs.Prelude.{Bool, cond, ◌&&◌, List, [], ◌∷◌, ◌++◌, ℕ, ◌+◌, ◌-◌, ◌*◌, eqb, leb, length}
use Rattle.std.specs.Prelude.{Option, None, Some}
use Rattle.lists.specs.Lists.{any, empty}

-- the fields of what is left of a line, where f is what the field at hand has so far; a space (32) ends a field
unfoldable pub fields_from : List ℕ → List ℕ → List (List ℕ)
fields_from f [] = f ∷ []
fields_from f (b ∷ l) = cond (eqb b 32) (f ∷ fields_from [] l) (fields_from (f ++ (b ∷ [])) l)

-- the fields of a line: what stands before, between and after its spaces
abbrev pub fields : List ℕ → List (List ℕ)
fields l = fields_from [] l

-- the fields of a line that may be a command: none where it is longer than 512 bytes, or a field is empty
unfoldable pub parts_of : List ℕ → List (List ℕ)
parts_of l = cond (leb (length l) 512) (cond (any empty (fields l)) [] (fields l)) []

-- is a byte one of 0 to 9
abbrev pub is_digit : ℕ → Bool
is_digit b = leb 48 b && leb b 57

-- the number that digits give after n; none where a byte is no digit
unfoldable pub digits_from : ℕ → List ℕ → Option ℕ
digits_from n [] = Some n
digits_from n (b ∷ l) = cond (is_digit b) (digits_from (n * 10 + (b - 48)) l) None

-- the number of 1 to 5 digits that a field is
unfoldable pub number_in : List ℕ → Option ℕ
number_in f = cond (leb 1 (length f) && leb (length f) 5) (digits_from 0 f) None
