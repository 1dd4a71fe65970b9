-- The tests of several identifiers, turn by turn.
use Rattle.lists.proofs.Prelude.{Bool, true, false, List, [], map, ◌≡◌, sym, ap, ◌∙◌, ℕ, ◌+◌, ◌<◌, ◌≤◌, add-one, arith, length, get_or, take, length-map, List·getD-map, take_all}
use denote.Ref.{Bor}
use Rattle.identifiers.specs.Names.{among, distinct}
use Rattle.identifiers.proofs.Names.{distinct-stopped, distinct-on}

-- what `get_or` gives past the end of identifiers that are lent
abbrev pub nothing : Bor (List ℕ)
nothing = record { ref_ptr = (0, 0); now = [] }

-- an identifier that is lent
pub lent_at : (l : List (Bor (List ℕ))) (i : ℕ) → get_or (map (λ x. x.now) l) i [] ≡ (get_or l i nothing).now
lent_at l i = List·getD-map (λ x. x.now) l i nothing

-- ---- do all differ

module _ (l : List (Bor (List ℕ))) (i : ℕ) (inv : distinct (take i (map (λ x. x.now) l)) ≡ true) where
  module _ (h : i < length l) (r : Bool) (e : r ≡ among (get_or (map (λ x. x.now) l) i []) (take i (map (λ x. x.now) l))) where
    place : i < length (map (λ x. x.now) l)
    place = omega (arith, length-map l (λ x. x.now))

    pub differ-stopped : r ≡ true → false ≡ distinct (map (λ x. x.now) l)
    differ-stopped t = sym (distinct-stopped (map (λ x. x.now) l) i place (sym e ∙ t))

    pub differ-on : r ≡ false → distinct (take (i + 1) (map (λ x. x.now) l)) ≡ true
    differ-on f = rw (add-one i) (distinct-on (map (λ x. x.now) l) i place inv (sym e ∙ f))

  pub differ-end : length l ≤ i → true ≡ distinct (map (λ x. x.now) l)
  differ-end h = sym (ap distinct (sym (take_all i (map (λ x. x.now) l) (omega (arith, length-map l (λ x. x.now))))) ∙ inv)
