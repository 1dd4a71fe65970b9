-- The numbers of identifiers of which some stand in the register and the others at places of a plan.
use Rattle.lists.proofs.Prelude.{true, false, cond, List, [], ◌∷◌, ◌++◌, map, ◌≡◌, refl, ap, ◌∙◌, ℕ, zero, suc, ◌+◌, ◌<◌, ◌≤◌, arith, ltb, length, get_or, take, drop, drop_of_length-le, length-map, ltb-true, not-true, length-take-le, get_or-take, every, same, by-test, and_left, and_right, every-at}
use Rattle.identifiers.specs.Names.{Name, bad_length, number_of}
use Rattle.identifiers.specs.Register.{entries}
use Rattle.identifiers.proofs.Names.{number-among, number-kept, number_step}
use Rattle.forecasts.specs.Sketches.{identifier_at, is_place}

-- an identifier of the first list has its number there
pub number-front : (ms ns : List Name) (n : Name) → number_of ms n < length ms → number_of (ms ++ ns) n ≡ number_of ms n
number-front ms ns n h = number-kept ms ns n (number-among ms n h)

-- any other is numbered on from those
pub number_past : (ms ns : List Name) (n : Name) → length ms ≤ number_of ms n → number_of (ms ++ ns) n ≡ length ms + number_of ns n
number_past [] ns n h = omega arith
number_past (m ∷ ms) ns n h =
    by-test (same m n)
    (λ y. let z : length (m ∷ ms) ≤ zero = rw y at h in absurd (omega arith))
    (λ y. let z = rw y at h in rw y (omega (arith, number_past ms ns n (omega arith))))

-- a place of a plan is one of its entries, and its identifier has a good length
pub place_kept : (plan : List ℕ) (a : ℕ) → is_place plan a ≡ true → (a < length (entries plan)) × (bad_length (identifier_at plan a) ≡ false)
place_kept plan a e =
    (ltb-true a (length (entries plan)) (and_left (ltb a (length (entries plan))) _ e), not-true _ (and_right (ltb a (length (entries plan))) _ e))

-- an element of a list that f was put to
map_at : {A B : Type 0} (f : A → B) (l : List A) (i : ℕ) (d : A) (e : B) → i < length l → get_or (map f l) i e ≡ f (get_or l i d)
map_at f [] i d e h = absurd (omega arith)
map_at f (x ∷ l) zero d e h = refl
map_at f (x ∷ l) (suc i) d e h = map_at f l i d e (omega arith)

module _ (plan places : List ℕ) (k i : ℕ) (long : k ≤ length places) (h : i < k) where
  -- the identifier at one of the places
  name-at : get_or (map (identifier_at plan) (take k places)) i [] ≡ identifier_at plan (get_or places i 0)
  name-at =
      map_at (identifier_at plan) (take k places) i 0 [] (omega (arith, length-take-le k places long)) ∙ ap (identifier_at plan) (get_or-take k places i 0 h)

  pub place_at : every (is_place plan) (take k places) ≡ true → is_place plan (get_or places i 0) ≡ true
  place_at e = rw (get_or-take k places i 0 h) at (every-at (is_place plan) (take k places) 0 e i (omega (arith, length-take-le k places long)))

  -- the identifiers at the places from i on
  pub new-step : (id : Name)
      → number_of (drop i (map (identifier_at plan) (take k places))) id ≡ cond (same (identifier_at plan (get_or places i 0)) id) zero (suc (number_of (drop (suc i) (map (identifier_at plan) (take k places))) id))
  new-step id =
      let ms = map (identifier_at plan) (take k places) in
      number_step ms id i (omega (arith, length-map (take k places) (identifier_at plan), length-take-le k places long)) ∙ ap (λ n. cond (same n id) zero (suc (number_of (drop (suc i) ms) id))) name-at

-- none is left past the last
pub new-end : (plan places : List ℕ) (k i : ℕ) (id : Name) → k ≤ length places → k ≤ i → number_of (drop i (map (identifier_at plan) (take k places))) id ≡ zero
new-end plan places k i id long h =
    let ms = map (identifier_at plan) (take k places) in
    ap (λ l. number_of l id) (drop_of_length-le ms {i = i} (omega (arith, length-map (take k places) (identifier_at plan), length-take-le k places long)))
