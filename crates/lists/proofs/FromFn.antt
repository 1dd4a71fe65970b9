-- What `array::from_fn` makes, where each call of the closure leaves it as it was and gives f of its place.
use mathlib.Core.List.{List, map}
use mathlib.Core.Logic.{⊎_elim}
use mathlib.Core.Path.{◌≡◌, refl, sym, subst, ◌∙◌}
use Prim.Native.Nat.{ℕ, zero, suc, ◌+◌, ◌<◌, ◌≤◌}
use native.Mathlib.Nat.{eq-or-lt_of_le}
use native.Mathlib.Omega.{arith}
use lib.ListN.{get_or, length-map}
use lib.Seq.{ext_get_or}
use denote.Param.Members.{Mut, Called}
use Rattle.std.specs.Array.{IsFromFnResultFrom, IsFromFnResult}
use Rattle.lists.specs.Lists.{up_to}
use Rattle.lists.proofs.Ranges.{up_to-at, length-rising}

module _ {F A : Type 0} (g : Mut F (ℕ × Unit {0}) A) (s : F) (f : ℕ → A) (n : ℕ) (calls : (i : ℕ) (x : A) (t : F) → i < n → Called g s (i, tt) x t → (x ≡ f i) × (t ≡ s)) where
  from_fn-at : (xs : List A) (i k : ℕ) (t : F) → t ≡ s → i + k ≤ n → IsFromFnResultFrom g t xs i k → (j : ℕ) (d : A) → i ≤ j → j < i + k → get_or xs j d ≡ f j
  from_fn-at xs i zero t e h r j d a b = absurd (omega arith)
  from_fn-at xs i (suc k) t e h r j d a b =
      let called : Called g s (i, tt) r.1 r.0 = subst (λ (u : F). Called g u (i, tt) r.1 r.0) e r.3 in
      let here = calls i r.1 r.0 (omega arith) called in
      ⊎_elim
      (λ (same : i ≡ j). subst (λ (m : ℕ). get_or xs m d ≡ f m) same (r.2.1 d ∙ here.0))
      (λ (less : i < j). from_fn-at xs (i + 1) k r.0 here.1 (omega arith) r.4 j d (omega arith) (omega arith))
      (eq-or-lt_of_le a)

  pub from_fn-made : (d : A) (xs : List A) → IsFromFnResult g s xs n → xs ≡ map f (up_to n)
  from_fn-made d xs r = ext_get_or d xs (map f (up_to n)) (omega (arith, r.long, length-map (up_to n) f, length-rising 0 n))
      (λ i l. from_fn-at xs 0 n s refl (omega arith) r.each i d (omega arith) (omega (arith, r.long)) ∙ sym (up_to-at f n i d (omega (arith, r.long))))
