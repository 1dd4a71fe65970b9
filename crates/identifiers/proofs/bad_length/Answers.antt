use Rattle.lists.proofs.Prelude.{◌||◌, [], ◌∷◌, ◌≡◌, refl, eqb, ltb, arith, ne_eqb, length}
use Rattle.identifiers.specs.Names.{Name, bad_length}
use Rattle.identifiers.proofs.bad_length.Goals as goal

by_length : (n : Name) → (eqb (length n) 0 || ltb 64 (length n)) ≡ bad_length n
unfolding bad_length
by_length [] = refl
by_length (x ∷ n) = rw (ne_eqb (length (x ∷ n)) 0 (λ e. omega arith))

pub returns : goal.returns
returns c = by_length c.args.id.now
