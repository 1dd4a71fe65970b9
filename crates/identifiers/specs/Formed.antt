-- The register's rule without its last part, that identifiers differ: what can be told entry by entry.
use Rattle.std.specs.Prelude.{Bool, false, ◌&&◌, not, cond, List, ℕ}
use Rattle.lists.specs.Lists.{every}
use Rattle.identifiers.specs.Register.{entries, used, entry_rule, used_first}

-- each of the entries keeps its rule, and used ones come first; where they have ended before these, all of these are unused
unfoldable pub formed_from : Bool → List (List ℕ) → Bool
formed_from ended es = every entry_rule es && cond ended (every (λ f. not (used f)) es) (used_first es)

-- each entry of a register keeps its rule, and used ones come first
abbrev pub formed : List ℕ → Bool
formed r = formed_from false (entries r)
