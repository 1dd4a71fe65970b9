-- The order of lent fields, where it is known.
use Rattle.lists.proofs.Prelude.{List, map, ◌≡◌, sym, ◌∙◌, ap, ℕ, ◌-◌, ◌≤◌, arith, length, take, drop, length-map, map-drop, take_rest}
use Rattle.std.specs.Prelude.{Option, Some}
use denote.Ref.{Bor}
use Rattle.identifiers.specs.Names.{Name}
use Rattle.stretches.specs.Reached.{whole}
use Rattle.engine.specs.Calls.{Query}
use Rattle.commands.specs.declared.Order.{Order}
use Rattle.commands.specs.declared.Order.TheVariants as order
use Rattle.commands.specs.Commands.{call_in, meant, reach, Means}

module _ (l : List (Bor (List ℕ))) {o p : Option Order} (m : Means (map (λ x. x.now) l) o) (e : o ≡ p) where
  -- as many fields as the order needs are lent
  pub reached : reach p ≤ length l
  reached =
      let h : reach p ≤ length (map (λ x. x.now) l) = rw e at m.held in
      omega (arith, h, length-map l (λ x. x.now))

  -- the call that they say
  pub called : call_in (map (λ x. x.now) l) ≡ meant p (map (λ x. x.now) l)
  called = sym m.call ∙ ap (λ (q : Option Order). meant q (map (λ x. x.now) l)) e

-- a query's identifiers, as they are lent
pub called-query : (l : List (Bor (List ℕ))) {o : Option Order} (k : ℕ) → Means (map (λ x. x.now) l) o → o ≡ Some (order.Query k) → call_in (map (λ x. x.now) l) ≡ Some (Query k whole (map (λ x. x.now) (take (length l - 2) (drop 2 l))))
called-query l k m e =
    let d : drop 2 (map (λ x. x.now) l) ≡ map (λ x. x.now) (take (length l - 2) (drop 2 l)) = sym (ap (map (λ x. x.now)) (take_rest 2 l) ∙ map-drop (λ x. x.now) 2 l) in
    called l m e ∙ ap (λ (ids : List Name). Some (Query k whole ids)) d
