-- A predicate on every element of a list.
use Rattle.std.specs.Prelude.{List, [], ◌∷◌}

-- P holds of every element
unfoldable pub AllOf : {C : Type 0} → (C → Type 0) → List C → Type 0
AllOf P [] = Unit {0}
AllOf P (c ∷ l) = P c × AllOf P l
