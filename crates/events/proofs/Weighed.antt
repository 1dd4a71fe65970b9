-- Verdicts by tests.
use Rattle.std.specs.Prelude.{Result, Ok, Err}
use Rattle.answers.specs.declared.Refusal.{Refusal}
use Rattle.lists.proofs.Prelude.{Bool, true, false, true≢false, List, ◌∷◌, ◌≡◌, ℕ}
use Rattle.events.specs.Verdicts.{Weighed}

-- a test more that does not hold changes no verdict
pub weighed-on : (m : ℕ) (t : Bool) (ns : List ℕ) (ts : List Bool) (i : ℕ) (v : Result ℕ Refusal) → t ≡ false → Weighed ns ts i v → Weighed (m ∷ ns) (t ∷ ts) i v
weighed-on m true ns ts i v e w = absurd (true≢false e)
weighed-on m false ns ts i (Err why) e w = w
weighed-on m false ns ts i (Ok j) e w = w
