-- Orders by letter and fields.
use Rattle.lists.proofs.Prelude.{List, [], ◌∷◌, map, ◌≡◌, refl, sym, ◌∙◌, ap, ℕ, ◌≤◌, ◌<◌, arith, length, get_or, drop, length-map, ne_eqb, never, cond_same}
use Rattle.std.specs.Prelude.{Option, None, Some}
use denote.Ref.{Bor}
use Rattle.identifiers.proofs.Lent.{nothing, lent_at}
use Rattle.identifiers.specs.Names.{Name}
use Rattle.texts.specs.Fields.{number_in}
use Rattle.commands.specs.declared.Change.TheVariants as change
use Rattle.commands.specs.declared.Order.{Order}
use Rattle.commands.specs.declared.Order.TheVariants as order
use Rattle.commands.specs.Commands.{alone, event_in, remove_by, remove_in, query_by, query_in, by_letter, call_in, meant, reach, remove_order, query_order, Names, Means}

-- the letters that are a command by themselves
pub opens : (b : ℕ) → b ≡ 79 → Names b [] (Some order.Open)
unfolding by_letter alone
opens b e = rw e (record { call = λ f. refl; held = omega arith })

pub closes : (b : ℕ) → b ≡ 67 → Names b [] (Some (order.Change change.Close))
unfolding by_letter alone
closes b e = rw e (record { call = λ f. refl; held = omega arith })

pub flushes : (b : ℕ) → b ≡ 70 → Names b [] (Some (order.Change change.Flush))
unfolding by_letter alone
flushes b e = rw e (record { call = λ f. refl; held = omega arith })

pub steps : (b : ℕ) → b ≡ 77 → Names b [] (Some (order.Change change.Step))
unfolding by_letter alone
steps b e = rw e (record { call = λ f. refl; held = omega arith })

pub counts : (b : ℕ) (g : Name) → b ≡ 69 → Names b (g ∷ []) (Some (order.Change change.Event))
unfolding by_letter event_in
counts b g e = rw e (record { call = λ f. refl; held = omega arith })

-- no order
pub unknown : (b : ℕ) (fs : List Name) → by_letter b fs ≡ None → Names b fs None
unknown b fs e = record { call = λ f. sym e; held = omega arith }

-- letters that are no command by themselves
pub none-alone : (b : ℕ) → (b ≡ 79 → ⊥) → (b ≡ 67 → ⊥) → (b ≡ 70 → ⊥) → (b ≡ 77 → ⊥) → by_letter b [] ≡ None
unfolding by_letter alone event_in remove_in query_in
none-alone b o c f m = simp (ne_eqb b 79 o, ne_eqb b 67 c, ne_eqb b 70 f, ne_eqb b 77 m, cond_same)

-- letters that take no field
pub none-double : (b : ℕ) (g : Name) → (b ≡ 69 → ⊥) → (b ≡ 82 → ⊥) → (b ≡ 81 → ⊥) → by_letter b (g ∷ []) ≡ None
unfolding by_letter alone
none-double b g e r q = simp (ne_eqb b 69 e, ne_eqb b 82 r, ne_eqb b 81 q, cond_same)

-- letters that take no two fields
pub none_more : (b : ℕ) (g h : Name) (fs : List Name) → (b ≡ 81 → ⊥) → by_letter b (g ∷ h ∷ fs) ≡ None
unfolding by_letter alone event_in remove_in
none_more b g h fs q = simp (ne_eqb b 81 q, cond_same)

-- what the orders with a number mean
pub remove-named : (n : Option ℕ) (fs : List Name) → meant (remove_order n) fs ≡ remove_by n
unfolding remove_by
remove-named None fs = refl
remove-named (Some w) fs = refl

pub query-named : (n : Option ℕ) (f g : Name) (ids : List Name) → meant (query_order n) (f ∷ g ∷ ids) ≡ query_by n ids
unfolding query_by
query-named None f g ids = refl
query-named (Some k) f g ids = refl

remove-reach : (n : Option ℕ) → reach (remove_order n) ≤ 0
remove-reach None = omega arith
remove-reach (Some w) = omega arith

query-reach : (n : Option ℕ) → reach (query_order n) ≤ 2
query-reach None = omega arith
query-reach (Some k) = omega arith

pub removes : (b : ℕ) (g : Name) (o : Option Order) → b ≡ 82 → o ≡ remove_order (number_in g) → Names b (g ∷ []) o
unfolding by_letter remove_in
removes b g o e q = rw (e, q) (record { call = λ f. remove-named (number_in g) (f ∷ g ∷ []); held = omega (arith, remove-reach (number_in g)) })

pub asks : (b : ℕ) (g : Name) (ids : List Name) (o : Option Order) → b ≡ 81 → o ≡ query_order (number_in g) → Names b (g ∷ ids) o
unfolding by_letter query_in
asks b g ids o e q = rw (e, q) (record { call = λ f. query-named (number_in g) f g ids; held = omega (arith, query-reach (number_in g)) })

-- a first field that is no letter
pub no-letter : (fs : List Name) → (length (get_or fs 0 []) ≡ 1 → ⊥) → None ≡ call_in fs
unfolding call_in
no-letter [] h = refl
no-letter ([] ∷ fs) h = refl
no-letter ((b ∷ []) ∷ fs) h = let z : ◌≡◌ {A = ℕ} 0 1 = omega (arith, h refl) in cc
no-letter ((b ∷ c ∷ f) ∷ fs) h = refl

-- a first field that is a letter
pub by-letter : (fs : List Name) (b : ℕ) (o : Option Order) → 1 ≤ length fs → length (get_or fs 0 []) ≡ 1 → b ≡ get_or (get_or fs 0 []) 0 0 → Names b (drop 1 fs) o → Means fs o
unfolding call_in
by-letter [] b o h k e n = let z : ◌≡◌ {A = ℕ} 0 1 = omega arith in never (cc)
by-letter ([] ∷ fs) b o h k e n = let z : ◌≡◌ {A = ℕ} 0 1 = omega arith in never (cc)
by-letter ((x ∷ []) ∷ fs) b o h k e n = record { call = n.call (x ∷ []) ∙ rw e; held = omega (arith, n.held) }
by-letter ((x ∷ y ∷ f) ∷ fs) b o h k e n = let z : ◌≡◌ {A = ℕ} 0 1 = omega arith in never (cc)

-- the fields after the first, by their number
pub after_one : (fs : List Name) → length fs ≡ 1 → drop 1 fs ≡ []
after_one [] h = refl
after_one (f ∷ []) h = refl
after_one (f ∷ g ∷ fs) h = let z : ◌≡◌ {A = ℕ} 0 1 = omega arith in cc

pub after_two : (fs : List Name) → length fs ≡ 2 → drop 1 fs ≡ get_or fs 1 [] ∷ []
after_two [] h = let z : ◌≡◌ {A = ℕ} 0 1 = omega arith in cc
after_two (f ∷ []) h = let z : ◌≡◌ {A = ℕ} 0 1 = omega arith in cc
after_two (f ∷ g ∷ []) h = refl
after_two (f ∷ g ∷ x ∷ fs) h = let z : ◌≡◌ {A = ℕ} 0 1 = omega arith in cc

pub after_more : (fs : List Name) → 2 < length fs → drop 1 fs ≡ get_or fs 1 [] ∷ get_or fs 2 [] ∷ drop 3 fs
after_more [] h = let z : ◌≡◌ {A = ℕ} 0 1 = omega arith in cc
after_more (f ∷ []) h = let z : ◌≡◌ {A = ℕ} 0 1 = omega arith in cc
after_more (f ∷ g ∷ []) h = let z : ◌≡◌ {A = ℕ} 0 1 = omega arith in cc
after_more (f ∷ g ∷ x ∷ fs) h = refl

-- orders of fields that are lent as slices
module _ (l : List (Bor (List ℕ))) where
  abbrev field_at : ℕ → List ℕ
  field_at i = (get_or l i nothing).now

  pub without-letter : (length (field_at 0) ≡ 1 → ⊥) → Means (map (λ x. x.now) l) None
  without-letter h = record { call = no-letter (map (λ x. x.now) l) (λ e. h (ap length (sym (lent_at l 0)) ∙ e)); held = omega arith }

  pub without-fields : length l ≡ 0 → Means (map (λ x. x.now) l) None
  without-fields h = without-letter (λ e. none-there l h e)
    where
      none-there : (l : List (Bor (List ℕ))) → length l ≡ 0 → length (get_or l 0 nothing).now ≡ 1 → ⊥
      none-there [] h e = omega arith
      none-there (p ∷ l) h e = omega arith

  module _ (b : ℕ) (o : Option Order) (k : length (field_at 0) ≡ 1) (e : b ≡ get_or (field_at 0) 0 0) where
    size : length (map (λ x. x.now) l) ≡ length l
    size = length-map l (λ x. x.now)

    lettered : 1 ≤ length l → Names b (drop 1 (map (λ x. x.now) l)) o → Means (map (λ x. x.now) l) o
    lettered h n = by-letter (map (λ x. x.now) l) b o (omega (arith, size)) (ap length (lent_at l 0) ∙ k) (e ∙ ap (λ (f : List ℕ). get_or f 0 0) (sym (lent_at l 0))) n

    pub one_field : length l ≡ 1 → Names b [] o → Means (map (λ x. x.now) l) o
    one_field h n = lettered (omega arith) (rw (after_one (map (λ x. x.now) l) (size ∙ h)) n)

    pub two_fields : length l ≡ 2 → Names b (field_at 1 ∷ []) o → Means (map (λ x. x.now) l) o
    two_fields h n = lettered (omega arith) (rw (after_two (map (λ x. x.now) l) (size ∙ h), lent_at l 1) n)

    pub more-fields : 2 < length l → ((g : Name) (fs : List Name) → Names b (field_at 1 ∷ g ∷ fs) o) → Means (map (λ x. x.now) l) o
    more-fields h n = lettered (omega arith) (rw (after_more (map (λ x. x.now) l) (omega (arith, size)), lent_at l 1) (n _ _))
