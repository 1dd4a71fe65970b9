-- Entries from the number of postings of each identifier.
use Rattle.std.specs.Prelude.{cond, List, [], ◌∷◌, ℕ, suc, ◌+◌, eqb}

-- the entries of the identifiers from i on, where so many postings stand before theirs; an identifier without postings has none
unfoldable pub entries_onward : ℕ → ℕ → List ℕ → List ℕ
entries_onward i sum [] = []
entries_onward i sum (c ∷ cs) = cond (eqb c 0) (entries_onward (suc i) sum cs) (i ∷ c ∷ sum ∷ entries_onward (suc i) (sum + c) cs)
