-- Partitions judged one after another, their chains marked: all keep their rules and share no block.
use Rattle.lists.proofs.Prelude.{Bool, true, false, ◌&&◌, and-false, List, ◌++◌, ◌≡◌, refl, ℕ, ◌+◌, ◌<◌, ◌≤◌, length, get_or, drop, every, turn, end}
use Rattle.state.specs.declared.Partition.{Partition}
use Rattle.card.specs.declared.Marks.{Marks}
use Rattle.card.specs.Marks.{marked, unmarked, Joins}
use Rattle.card.proofs.Marking.{unmarked-first, unmarked-append, unmarked-stop}
use Rattle.partitions.specs.Reading.{chain_of}
use Rattle.partitions.specs.Formed.{partition_rule, chains_of, partitions_formed}

module _ (W : List ℕ) (limit : ℕ) where
  -- these keep their rules, and their chains meet no mark and no other of them
  abbrev pub formed : Marks → List Partition → Bool
  formed m l = every (partition_rule W limit) l && unmarked m (chains_of W l)

  -- all of them, where no block is marked
  pub formed-first : (m : Marks) (l : List Partition) → ((b : ℕ) → marked m b ≡ false) → partitions_formed W limit l ≡ formed m l
  unfolding partitions_formed
  formed-first m l none = rw (unmarked-first m (chains_of W l) none)

  module _ (m : Marks) (l : List Partition) (i : ℕ) (d : Partition) (h : i < length l) where
    chains-more : chains_of W (drop i l) ≡ chain_of W (get_or l i d) ++ chains_of W (drop (i + 1) l)
    unfolding chains_of
    chains-more = turn (chains_of W) l i d h refl

    rules-more : every (partition_rule W limit) (drop i l) ≡ (partition_rule W limit (get_or l i d) && every (partition_rule W limit) (drop (i + 1) l))
    rules-more = turn (every (partition_rule W limit)) l i d h refl

    -- a partition that breaks its rule
    pub formed-breaks : partition_rule W limit (get_or l i d) ≡ false → formed m (drop i l) ≡ false
    formed-breaks e = rw (rules-more, e)

    -- a chain that meets a mark
    pub formed-meets : unmarked m (chain_of W (get_or l i d)) ≡ false → formed m (drop i l) ≡ false
    formed-meets e =
        rw (chains-more, unmarked-stop m (chain_of W (get_or l i d)) (chains_of W (drop (i + 1) l)) e) (and-false (every (partition_rule W limit) (drop i l)))

    -- one that keeps its rule and meets none, and the marks with its own
    pub formed-step : partition_rule W limit (get_or l i d) ≡ true → (k : Marks) → Joins m (chain_of W (get_or l i d)) k → formed m (drop i l) ≡ formed k (drop (i + 1) l)
    formed-step r k j =
        rw (rules-more, r, chains-more, unmarked-append m k (chain_of W (get_or l i d)) (chains_of W (drop (i + 1) l)) j.marks, j.apart)

  -- none is left
  pub formed-end : (m : Marks) (l : List Partition) (i : ℕ) → length l ≤ i → formed m (drop i l) ≡ true
  unfolding chains_of
  formed-end m l i h = end (formed m) l i h refl
