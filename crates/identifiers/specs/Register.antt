-- The register: entries of 65 bytes, a length byte, the identifier's bytes and then zeros.
use Rattle.std.specs.Prelude.{Bool, true, ◌&&◌, not, cond, List, [], ◌∷◌, map, ℕ, zero, suc, ◌+◌, ◌*◌, ◌/◌, eqb, ltb, leb, length, get_or, take, drop}
use Rattle.std.proofs.lemmas.List.Edits.{sets}
use Rattle.lists.specs.Lists.{keep, every}
use Rattle.identifiers.specs.Names.{Name, distinct}

-- the first n entries
abbrev pub entries_of : ℕ → List ℕ → List (List ℕ)
entries_of zero r = []
entries_of (suc n) r = take 65 r ∷ entries_of n (drop 65 r)

-- all entries of a register
abbrev pub entries : List ℕ → List (List ℕ)
entries r = entries_of (length r / 65) r

-- an entry's length byte
abbrev pub size : List ℕ → ℕ
size e = get_or e 0 0

-- is an entry used
abbrev pub used : List ℕ → Bool
used e = ltb 0 (size e)

-- the identifier of an entry
abbrev pub name_of : List ℕ → Name
name_of e = take (size e) (drop 1 e)

-- an entry holds at most 64 bytes, and zeros after them; so an unused one is all zero
abbrev pub entry_rule : List ℕ → Bool
entry_rule e = leb (size e) 64 && every (λ b. eqb b 0) (drop (1 + size e) e)

-- used entries come first
abbrev pub used_first : List (List ℕ) → Bool
used_first [] = true
used_first (e ∷ es) = cond (used e) (used_first es) (every (λ f. not (used f)) es)

-- the identifiers of a register, by number
unfoldable pub names : List ℕ → List Name
names r = map name_of (keep used (entries r))

-- refusal 3, for a register: each entry keeps its rule, used ones come first, and their identifiers differ
unfoldable pub register_rule : List ℕ → Bool
register_rule r = every entry_rule (entries r) && (used_first (entries r) && distinct (names r))

-- the register with an identifier in its first unused entry, where zeros stand
unfoldable pub added : List ℕ → Name → List ℕ
added r n = sets r (65 * length (names r)) (length n ∷ n)
