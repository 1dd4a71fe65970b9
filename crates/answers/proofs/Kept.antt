-- What goes through the forms that calls are written in: that a refusal changes nothing, and what holds before and of all that is left.
use mathlib.Core.Bool.{Bool, true, false}
use mathlib.Core.List.{List, [], ◌∷◌}
use mathlib.Core.Path.{◌≡◌, refl}
use Prim.Native.Nat.{ℕ}
use native.Mathlib.Omega.{arith}
use Rattle.answers.specs.declared.Hit.{Hit}
use Rattle.answers.specs.Answers.{done, number, hits, mean, Outcome, refuse, leave, refuse_if, choose, next, in_turn, state_of, carry}
use Rattle.answers.specs.Unchanged.{Unchanged}

module _ {S : Type 0} {s : S} where
  pub unchanged-if : (t : Bool) (n : ℕ) (o : Outcome S) → Unchanged s o → Unchanged s (refuse_if t n o)
  unfolding refuse_if
  unchanged-if true n o h = record { same = λ m e. refl }
  unchanged-if false n o h = h

  pub unchanged-choose : (t : Bool) (o p : Outcome S) → Unchanged s o → Unchanged s p → Unchanged s (choose t o p)
  unfolding choose
  unchanged-choose true o p h k = h
  unchanged-choose false o p h k = k

  pub unchanged-done : (t : S) → Unchanged s (leave done t)
  unchanged-done t = record { same = λ m e. let z : ◌≡◌ {A = ℕ} 0 1 = cc in absurd (omega arith) }

  pub unchanged-number : (k : ℕ) (t : S) → Unchanged s (leave (number k) t)
  unchanged-number k t = record { same = λ m e. let z : ◌≡◌ {A = ℕ} 0 1 = cc in absurd (omega arith) }

  pub unchanged-hits : (hs : List Hit) (k : ℕ) (t : S) → Unchanged s (leave (hits hs k) t)
  unchanged-hits hs k t = record { same = λ m e. let z : ◌≡◌ {A = ℕ} 0 1 = cc in absurd (omega arith) }

  pub unchanged-mean : (q r f : ℕ) (t : S) → Unchanged s (leave (mean q r f) t)
  unchanged-mean q r f t = record { same = λ m e. let z : ◌≡◌ {A = ℕ} 0 1 = cc in absurd (omega arith) }

  unchanged-next : (o : Outcome S) (k : S → Outcome S) → ((u : S) → Unchanged s (k u)) → Unchanged s (next o k)
  unfolding next
  unchanged-next (refuse n) k h = record { same = λ m e. refl }
  unchanged-next (leave x u) k h = h u

  pub unchanged-turn : {A : Type 0} (f : S → A → Outcome S) (t : S) (xs : List A) → Unchanged s (in_turn f t xs)
  unfolding in_turn next
  unchanged-turn f t [] = unchanged-done t
  unchanged-turn f t (x ∷ xs) = unchanged-next (f t x) (λ u. in_turn f u xs) (λ u. unchanged-turn f u xs)

-- of the whole from the part that a call works on
pub unchanged-carry : {S T : Type 0} (f : S → T) (s : S) (t : T) (o : Outcome S) → f s ≡ t → Unchanged s o → Unchanged t (carry f o)
unchanged-carry f s t (refuse n) e h = record { same = λ m r. refl }
unchanged-carry f s t (leave x u) e h = record { same = λ m r. rw (h.same m r) e }

-- what holds of what was there before and of what the later tests leave holds afterwards
module _ {S : Type 0} (P : S → Type 0) (s : S) where
  pub after-if : P s → (t : Bool) (n : ℕ) (o : Outcome S) → (t ≡ false → P (state_of s o)) → P (state_of s (refuse_if t n o))
  unfolding refuse_if
  after-if here true n o h = here
  after-if here false n o h = h refl

  pub after-choose : (t : Bool) (o p : Outcome S) → (t ≡ true → P (state_of s o)) → (t ≡ false → P (state_of s p)) → P (state_of s (choose t o p))
  unfolding choose
  after-choose true o p h k = h refl
  after-choose false o p h k = k refl

-- and so of what one call leaves and the next ones make of it
after_next : {S : Type 0} (P : S → Type 0) (s : S) → P s → (t : S) (o : Outcome S) → P (state_of t o) → (k : S → Outcome S) → ((u : S) → P u → P (state_of s (k u)))
    → P (state_of s (next o k))
unfolding next
after_next P s p t (refuse n) q k h = p
after_next P s p t (leave x u) q k h = h u q

-- what every call of a list keeps
pub after_turn : {S A : Type 0} (P : S → Type 0) (f : S → A → Outcome S) → ((t : S) (x : A) → P t → P (state_of t (f t x))) → (s : S) → P s
    → (t : S) → P t → (xs : List A) → P (state_of s (in_turn f t xs))
unfolding in_turn next
after_turn P f h s p t q [] = q
after_turn P f h s p t q (x ∷ xs) = after_next P s p t (f t x) (h t x q) (λ u. in_turn f u xs) (λ u r. after_turn P f h s p u r xs)
