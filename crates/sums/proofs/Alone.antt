-- One window read as a list of one.
use Rattle.lists.proofs.Prelude.{Bool, true, false, and-true, List, [], ◌∷◌, ◌≡◌, refl, sym, ◌∙◌, ℕ, arith, take_all, eq-eqb}
use Rattle.state.specs.declared.State.{State}
use Rattle.kway.specs.Parts.{part}
use Rattle.sums.specs.declared.Counts.{Counts}
use Rattle.sums.specs.Views.{counts_in, Neat, held_in, Tidy, first_place}
use Rattle.sums.specs.Tally.{window_formed, lists_formed, ReadWell, ReadAll}

module _ (W : List ℕ) (s : State) (w : ℕ) (r : Bool) (T : List ℕ) (a : ReadAll W s (w ∷ []) r T) where
  -- the one slot is all
  slot : part 65 0 T ≡ T
  slot = take_all 65 T (omega (arith, a.long))

  pub alone-tidy : Tidy w T
  alone-tidy = rw slot at (a.tidy 0 (omega arith))

  alone-fine : r ≡ lists_formed W s w
  unfolding lists_formed
  alone-fine = a.fine ∙ rw (and-true (window_formed W s w))

  -- a list that is well formed has the window's counts
  pub alone-read : r ≡ true → (c : Counts) → counts_in c ≡ held_in w T → Neat c → ReadWell W s w c
  alone-read y c e neat =
      let first : first_place w (w ∷ []) ≡ 0 = rw (eq-eqb w w refl) in
      record { formed = sym alone-fine ∙ y; counts = e ∙ rw (first, slot) at (a.counts y w (rw (eq-eqb w w refl))); neat = neat }

  pub alone-bad : r ≡ false → lists_formed W s w ≡ false
  alone-bad n = sym alone-fine ∙ n
