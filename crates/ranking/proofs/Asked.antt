-- The tests of a query itself.
use Rattle.lists.proofs.Prelude.{Bool, ◌||◌, not, List, [], ◌∷◌, map, ◌≡◌, refl, sym, ap₂, ℕ, arith, eqb, ltb, length, length-map, ne_eqb, empty}
use denote.Ref.{Bor}
use Rattle.identifiers.specs.Names.{distinct}
use Rattle.ranking.specs.Asked.{bad_query}

-- its parts by the number of identifiers lent
pub bad-parts : (l : List (Bor (List ℕ))) (k : ℕ) → bad_query k (map (λ x. x.now) l) ≡ (eqb (length l) 0 || (ltb 5 (length l) || (not (distinct (map (λ x. x.now) l)) || (eqb k 0 || ltb 32 k))))
unfolding bad_query
bad-parts l k = ap₂ (λ (x : Bool) (n : ℕ). x || (ltb 5 n || (not (distinct (map (λ x. x.now) l)) || (eqb k 0 || ltb 32 k)))) (none l) (length-map l (λ x. x.now))
  where
    none : (l : List (Bor (List ℕ))) → empty (map (λ x. x.now) l) ≡ eqb (length l) 0
    none [] = refl
    none (x ∷ l) = sym (ne_eqb (length (x ∷ l)) 0 (λ e. omega arith))
