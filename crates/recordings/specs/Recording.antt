-- Windows of identifiers as they are lent: entries of 65 bytes like the register's, in order, and a list of how many belong to each window.
use Rattle.std.specs.Prelude.{Bool, ◌&&◌, List, [], ◌∷◌, ◌++◌, map, ℕ, ◌+◌, ◌-◌, ◌/◌, ◌%◌, eqb, length, take, drop, replicate}
use Rattle.lists.specs.Lists.{every, total_by}
use Rattle.identifiers.specs.Names.{Name}
use Rattle.identifiers.specs.Register.{entries, size, name_of}

-- an entry is zero after its identifier; where the length byte is above 64, nothing comes after
abbrev pub zero_after : List ℕ → Bool
zero_after e = every (λ b. eqb b 0) (drop (1 + size e) e)

-- how many entries the list tells in all
abbrev pub listed_in_all : List ℕ → ℕ
listed_in_all counts = total_by (λ n. n) counts

-- refusal 3, for windows that are lent: whole entries, as many as the list adds up to, and each zero after its identifier
unfoldable pub recording_rule : List ℕ → List ℕ → Bool
recording_rule r counts = eqb (length r % 65) 0 && (eqb (listed_in_all counts) (length r / 65) && every zero_after (entries r))

-- the identifier that an entry tells: as long as its length byte says. An entry has 64 bytes of a longer one, and zeros stand for the others: it is refused
-- for its length, whatever its bytes
abbrev pub identifier_in : List ℕ → Name
identifier_in e = name_of e ++ replicate (size e - 64) 0

-- the list in parts of these lengths
abbrev pub cut_into : {A : Type 0} → List ℕ → List A → List (List A)
cut_into [] l = []
cut_into (n ∷ ns) l = take n l ∷ cut_into ns (drop n l)

-- the identifiers, window by window
unfoldable pub recorded : List ℕ → List ℕ → List (List Name)
recorded r counts = cut_into counts (map identifier_in (entries r))
