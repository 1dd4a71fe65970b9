-- The windows named, read in passes of at most sixteen.
use Rattle.lists.proofs.Prelude.{Bool, true, false, ◌&&◌, List, ◌++◌, ◌≡◌, refl, sym, ap, ◌∙◌, ℕ, ◌+◌, ◌-◌, ◌*◌, ◌≤◌, min, arith, length, length-append, length-drop, length-take-le, take, take-append-drop, drop, drop-drop, drop_of_length-le, every, every_append, and_left, and_right}
use Rattle.state.specs.declared.State.{State}
use Rattle.sums.specs.Tally.{lists_ruled, window_formed, ReadAll}

-- before the next pass: those before `from` are well formed, and all is told by the rest
pub record Passing (W : List ℕ) (s : State) (ws : List ℕ) (from : ℕ) (T : List ℕ) : Type 0 where
  pub long : length T ≡ 1040
  pub within : from ≤ length ws
  pub rest : (lists_ruled W s && every (window_formed W s) ws) ≡ (lists_ruled W s && every (window_formed W s) (drop from ws))

pub passing-none : (W : List ℕ) (s : State) (ws T : List ℕ) → length T ≡ 1040 → Passing W s ws 0 T
passing-none W s ws T e = record { long = e; within = omega arith; rest = refl }

-- the list so far is told by its first part
none_of : (l a b : Bool) → (l && a) ≡ false → (l && (a && b)) ≡ false
none_of true a b e = rw e
none_of false a b e = refl

module _ (W : List ℕ) (s : State) (ws : List ℕ) (from : ℕ) (T : List ℕ) (p : Passing W s ws from T) (n : ℕ) (size : n ≡ min (length ws - from) 16) (r : Bool) (P : List ℕ)
    (a : ReadAll W s (take n (drop from ws)) r P) where
  -- how many this pass has
  read : length (take n (drop from ws)) ≡ n
  read = length-take-le n (drop from ws) (omega (arith, length-drop from ws))

  wide : length P ≡ 65 * n
  wide = a.long ∙ ap (λ (m : ℕ). 65 * m) read

  -- what is read, and what is left
  parted : every (window_formed W s) (drop from ws) ≡ (every (window_formed W s) (take n (drop from ws)) && every (window_formed W s) (drop (from + n) ws))
  parted =
      ap (every (window_formed W s)) (sym (take-append-drop n (drop from ws)))
      ∙ every_append (window_formed W s) (take n (drop from ws)) (drop n (drop from ws))
      ∙ ap (λ (l : List ℕ). every (window_formed W s) (take n (drop from ws)) && every (window_formed W s) l) (drop-drop n from ws)

  pub passing-bad : r ≡ false → false ≡ (lists_ruled W s && every (window_formed W s) ws)
  passing-bad f = sym (p.rest ∙ rw parted (none_of (lists_ruled W s) (every (window_formed W s) (take n (drop from ws))) (every (window_formed W s) (drop (from + n) ws)) (sym a.fine ∙ f)))

  module _ (y : r ≡ true) where
    -- what is read is well formed, so the rest decides
    rest : (lists_ruled W s && every (window_formed W s) ws) ≡ (lists_ruled W s && every (window_formed W s) (drop (from + n) ws))
    rest = p.rest ∙ rw (parted, and_right (lists_ruled W s) _ (sym a.fine ∙ y))

    pub passing-end : from + n ≡ length ws → true ≡ (lists_ruled W s && every (window_formed W s) ws)
    passing-end e = sym (rest ∙ rw (drop_of_length-le ws {i = from + n} (omega arith), and_left (lists_ruled W s) _ (sym a.fine ∙ y)))

    pub passing-more : Passing W s ws (from + n) (P ++ drop (65 * n - 0) T)
    passing-more = record { long = omega (arith, wide, length-append P (drop (65 * n - 0) T), length-drop (65 * n - 0) T, p.long); within = omega (arith, p.within); rest = rest }
