-- Partitions kept one after another.
use Rattle.lists.proofs.Prelude.{Bool, true, false, cond, List, [], ◌∷◌, ◌++◌, append-nil, ◌≡◌, sym, ap, ◌∙◌, ℕ, ◌+◌, ◌<◌, ◌≤◌, add-one, arith, length, get_or, take, set, length-take, take-suc, keep, length-keep, keep_append}
use Rattle.state.specs.declared.Partition.{Partition}
use Rattle.state.specs.declared.Partitions.{Partitions}
use Rattle.state.specs.Views.{finished, partitions_of, no_partition}
use Rattle.state.proofs.Rows.{held, added}

module _ (t : Partition → Bool) (all : List Partition) (i : ℕ) (d : Partition) (few : length all ≤ 51) (h : i < length all) where
  abbrev l : List Partition
  l = keep t (take i all)

  abbrev p : Partition
  p = get_or all i d

  -- those found so far are fewer than 51
  pub found-few : length l < 51
  found-few = omega (arith, length-keep t (take i all), length-take i all)

  -- one place more
  next : keep t (take (i + 1) all) ≡ l ++ keep t (p ∷ [])
  next = ap (λ k. keep t (take k all)) (add-one i) ∙ ap (keep t) (take-suc all i d h) ∙ keep_append t (take i all) (p ∷ [])

  -- where it is found, it is put after the others
  pub found-more : (ps : Partitions) → ps ≡ partitions_of l → t p ≡ true → record { used = ps.used + 1; records = set ps.records ps.used p } ≡ partitions_of (keep t (take (i + 1) all))
  found-more ps e y =
      let f : finished ps ≡ l = ap finished e ∙ held 51 no_partition l in
      added ps p (omega (arith, found-few, ap (λ (x : Partitions). x.used) e)) (e ∙ ap partitions_of (sym f)) ∙ ap (λ m. partitions_of (m ++ (p ∷ []))) f
      ∙ ap partitions_of (sym (next ∙ ap (λ b. l ++ cond b (p ∷ []) []) y))

  -- and where it is not, they stay
  pub found-same : t p ≡ false → partitions_of l ≡ partitions_of (keep t (take (i + 1) all))
  found-same y = ap partitions_of (sym (next ∙ ap (λ b. l ++ cond b (p ∷ []) []) y ∙ append-nil l))
