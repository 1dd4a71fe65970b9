-- Loops over the places of an array: where the answer for the whole is the answer for what is left, what a
-- turn does to that, and the end.
use mathlib.Core.Bool.{Bool, true, false, not, ◌&&◌, and-false}
use mathlib.Core.List.{List, [], ◌∷◌}
use mathlib.Core.Path.{◌≡◌, refl, sym, ◌∙◌}
use Prim.Native.Nat.{ℕ, ◌+◌, ◌<◌, ◌≤◌}
use lib.ListN.{drop, length, get_or, drop_of_length-le}
use native.Mathlib.Numerals.{add-one}
use lib.Seq.{drop-cons}
use borrow.Author.Tests.{not-true, not-false}
use Rattle.lists.specs.Lists.{every}
use Rattle.lists.proofs.Bools.{and_left}
use Rattle.lists.proofs.Tests.{every-from}

-- what a test that was made by a call says, where it passed and where it failed
pub passed : {r t : Bool} → r ≡ t → not r ≡ false → t ≡ true
passed {r = r} e h = sym e ∙ not-false r h

pub failed : {r t : Bool} → r ≡ t → not r ≡ true → t ≡ false
failed {r = r} e h = sym e ∙ not-true r h

module _ {A B : Type 0} (f : List A → B) {whole : B} where
  -- one turn, over all places
  pub turn : (l : List A) (i : ℕ) (d : A) → i < length l → whole ≡ f (drop i l) → whole ≡ f (get_or l i d ∷ drop (i + 1) l)
  turn l i d h inv = rw (add-one, ← drop-cons l i d h) inv

  -- the end, over all places
  pub end : (l : List A) (i : ℕ) → length l ≤ i → whole ≡ f (drop i l) → whole ≡ f []
  end l i h inv = rw (drop_of_length-le l h) at inv

-- a test of each element with every later one needs to look at the next only, where it goes on from one to the next
pub near_next : {A : Type 0} (f : List A → Bool) (near : A → A → Bool)
    → ((x : A) (l : List A) → f (x ∷ l) ≡ (every (near x) l && f l))
    → ((x y z : A) → near x y ≡ true → near y z ≡ true → near x z ≡ true)
    → (x y : A) (l : List A) → f (x ∷ y ∷ l) ≡ (near x y && f (y ∷ l))
near_next {A = A} f near cons trans x y l = cons x (y ∷ l) ∙ same (near x y) (every (near x) l) (f (y ∷ l)) later
  where
    same : (a b c : Bool) → (a ≡ true → c ≡ true → b ≡ true) → ((a && b) && c) ≡ (a && c)
    same true b true h = rw (h refl refl)
    same true b false h = and-false b
    same false b c h = refl

    later : near x y ≡ true → f (y ∷ l) ≡ true → every (near x) l ≡ true
    later e o =
        let g : every (near y) l ≡ true = and_left (every (near y) l) (f l) (rw (cons y l) at o) in
        every-from (near y) (near y) (near x) (λ z p q. trans x y z e p) l g g
