-- Chains that are marked one after another share no block.
use Rattle.lists.proofs.Prelude.{Bool, true, false, ◌&&◌, List, ◌++◌, ◌≡◌, refl, ap, ◌∙◌, ℕ, ◌+◌, ◌<◌, ◌≤◌, length, get_or, drop, turn, end}
use Rattle.state.specs.declared.Partition.{Partition}
use Rattle.card.specs.declared.Marks.{Marks}
use Rattle.card.specs.Marks.{unmarked, Joins}
use Rattle.card.proofs.Marking.{unmarked-append, unmarked-stop}
use Rattle.partitions.specs.Reading.{chain_of}
use Rattle.partitions.specs.Formed.{chains_of}

module _ (W : List ℕ) (m : Marks) (l : List Partition) (i : ℕ) where
  module _ (d : Partition) (h : i < length l) where
    chains-more : chains_of W (drop i l) ≡ chain_of W (get_or l i d) ++ chains_of W (drop (i + 1) l)
    unfolding chains_of
    chains-more = turn (chains_of W) l i d h refl

    -- a chain that meets a mark
    pub apart-fails : unmarked m (chain_of W (get_or l i d)) ≡ false → unmarked m (chains_of W (drop i l)) ≡ false
    apart-fails e = ap (unmarked m) chains-more ∙ unmarked-stop m (chain_of W (get_or l i d)) (chains_of W (drop (i + 1) l)) e

    -- a chain that meets none, and the marks with its own
    pub apart-step : (k : Marks) → Joins m (chain_of W (get_or l i d)) k → unmarked m (chains_of W (drop i l)) ≡ unmarked k (chains_of W (drop (i + 1) l))
    apart-step k j =
        let b = chains_of W (drop (i + 1) l) in
        ap (unmarked m) chains-more ∙ unmarked-append m k (chain_of W (get_or l i d)) b j.marks ∙ ap (λ (t : Bool). t && unmarked k b) j.apart

  -- no chain is left
  pub apart-end : length l ≤ i → unmarked m (chains_of W (drop i l)) ≡ true
  unfolding chains_of
  apart-end h = end (λ l. unmarked m (chains_of W l)) l i h refl
