-- Partitions of one kind seen as another that has the same levels: due levels, oldest and replaced are seen the same.
use Rattle.lists.proofs.Prelude.{Bool, cond, List, [], ◌∷◌, map, ◌≡◌, refl, sym, ap, ◌∙◌, fun_ext, ℕ, suc, eqb, leb, take, drop, keep, by-test, map-take, map-drop}
use Rattle.state.specs.Levels.{due_at, levels, of_level, due_levels, oldest_at, oldest}

module _ {P Q : Type 0} (f : P → Q) (level : Q → ℕ) where
  pub count_map : (v : ℕ) (ps : List P) → of_level level v (map f ps) ≡ of_level (λ p. level (f p)) v ps
  count_map v [] = refl
  count_map v (p ∷ ps) = by-test (eqb (level (f p)) v) (λ y. rw y (ap suc (count_map v ps))) (λ n. rw n (count_map v ps))

  pub due-map : (ps : List P) → due_levels level (map f ps) ≡ due_levels (λ p. level (f p)) ps
  due-map ps = ap (λ (t : ℕ → Bool). keep t levels) (fun_ext λ v. ap (leb (due_at v)) (count_map v ps))

  pub place_map : (v : ℕ) (ps : List P) → oldest_at level v (map f ps) ≡ oldest_at (λ p. level (f p)) v ps
  place_map v [] = refl
  place_map v (p ∷ ps) = ap (λ n. cond (eqb (level (f p)) v) 0 (suc n)) (place_map v ps)

  pub oldest-map : (vs : List ℕ) (ps : List P) → oldest level vs (map f ps) ≡ map f (oldest (λ p. level (f p)) vs ps)
  oldest-map [] ps = refl
  oldest-map (v ∷ vs) ps =
      let k = oldest_at (λ p. level (f p)) v ps in
      ap (λ n. take (due_at v) (drop n (map f ps))) (place_map v ps)
      ∙ sym (map-take f (due_at v) (drop k ps) ∙ ap (take (due_at v)) (map-drop f k ps))
