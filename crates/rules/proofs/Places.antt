-- A list in which each element stands well before the next.
use Rattle.lists.proofs.Prelude.{Bool, true, false, ◌&&◌, and-false, List, [], ◌∷◌, ◌≡◌, refl, sym, ◌∙◌, ℕ, zero, suc, ◌<◌, ◌≤◌, add-one, arith, leb, length, get_or, leb-true, le-leb, near_next}
use Rattle.std.specs.List.{IsAllAdjacentAnswer}
use Rattle.state.specs.declared.Partition.{Partition}
use Rattle.state.specs.Rules.{never_rise}

-- levels never rise where none is above the one before
pub rise-next : (p q : Partition) (l : List Partition) → never_rise (p ∷ q ∷ l) ≡ (leb q.level p.level && never_rise (q ∷ l))
rise-next =
    near_next never_rise (λ p q. leb q.level p.level) (λ p l. refl) (λ p q r e g.
    let a : q.level ≤ p.level = leb-true q.level p.level e in
    let b : r.level ≤ q.level = leb-true r.level q.level g in
    le-leb r.level p.level (omega arith))

-- a test that asks of neighbours what all before all others have to keep is answered by the neighbours
module _ {A : Type 0} (sorted : List A → Bool) (before : A → A → Bool) (none : sorted [] ≡ true) (one : (x : A) → sorted (x ∷ []) ≡ true)
    (next : (x y : A) (l : List A) → sorted (x ∷ y ∷ l) ≡ (before x y && sorted (y ∷ l))) where
  all-near : (l : List A) → ((k : ℕ) (d : A) → suc k < length l → before (get_or l k d) (get_or l (suc k) d) ≡ true) → sorted l ≡ true
  all-near [] h = none
  all-near (x ∷ []) h = one x
  all-near (x ∷ y ∷ l) h = next x y l ∙ rw (h 0 x (omega arith)) (all-near (y ∷ l) (λ k d u. h (suc k) d (omega arith)))

  one-far : (l : List A) (k : ℕ) → suc k < length l → ((d : A) → before (get_or l k d) (get_or l (suc k) d) ≡ false) → sorted l ≡ false
  one-far [] k u h = absurd (omega arith)
  one-far (x ∷ []) k u h = absurd (omega arith)
  one-far (x ∷ y ∷ l) zero u h = next x y l ∙ rw (h x)
  one-far (x ∷ y ∷ l) (suc k) u h = next x y l ∙ rw (one-far (y ∷ l) k (omega arith) h, and-false (before x y))

  pub near-answer : (l : List A) (r : Bool) → IsAllAdjacentAnswer (λ x y b. b ≡ before x y) l r → r ≡ sorted l
  near-answer l true h = sym (all-near l (λ k d u. sym (rw add-one at (h k d (omega arith)))))
  near-answer l false h = sym (one-far l h.0 (omega (arith, h.1)) (λ d. sym (rw add-one at (h.2 d))))
