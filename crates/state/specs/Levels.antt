-- "Partitions": when a level is due, and the oldest partitions of the highest due level, for partitions of whatever kind that have a level.
use Rattle.std.specs.Prelude.{cond, List, [], ◌∷◌, ◌++◌, ℕ, suc, eqb, leb, length, take, drop}
use Rattle.lists.specs.Lists.{keep}

-- at how many partitions a level is due, and how many of them are merged: 3 of level 5, 8 of any other
abbrev pub due_at : ℕ → ℕ
due_at v = cond (eqb v 5) 3 8

-- the level that a merge of level v writes: 5 goes into 5
abbrev pub next_level : ℕ → ℕ
next_level v = cond (eqb v 5) 5 (suc v)

-- how many partitions of a level there may be
abbrev pub level_limit : ℕ → ℕ
level_limit v = cond (eqb v 0) 16 (cond (eqb v 5) 3 8)

-- the levels, highest first
abbrev pub levels : List ℕ
levels = 5 ∷ 4 ∷ 3 ∷ 2 ∷ 1 ∷ 0 ∷ []

module _ {P : Type 0} (level : P → ℕ) where
  -- how many partitions are of level v
  abbrev pub of_level : ℕ → List P → ℕ
  of_level v ps = length (keep (λ p. eqb (level p) v) ps)

  -- the due levels, highest first
  abbrev pub due_levels : List P → List ℕ
  due_levels ps = keep (λ v. leb (due_at v) (of_level v ps)) levels

  -- the place of the oldest partition of level v
  abbrev pub oldest_at : ℕ → List P → ℕ
  oldest_at v [] = 0
  oldest_at v (p ∷ ps) = cond (eqb (level p) v) 0 (suc (oldest_at v ps))

  -- the inputs of a merge, where vs are the due levels: the oldest 8 (or 3) of the first of vs, and none where none is due
  abbrev pub oldest : List ℕ → List P → List P
  oldest [] ps = []
  oldest (v ∷ vs) ps = take (due_at v) (drop (oldest_at v ps) ps)

  -- the partitions with the inputs' place taken by the result, which is one partition or none
  abbrev pub replaced : List ℕ → List P → List P → List P
  replaced [] ps result = ps
  replaced (v ∷ vs) ps result = take (oldest_at v ps) ps ++ (result ++ drop (due_at v) (drop (oldest_at v ps) ps))
