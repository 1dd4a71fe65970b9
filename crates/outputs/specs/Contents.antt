-- Words of the content of blocks, written one after another.
use Rattle.std.specs.Prelude.{cond, ◌&&◌, List, [], ◌∷◌, ℕ, suc, ◌+◌, ◌-◌, ◌*◌, ◌/◌, ◌%◌, eqb, ltb, get_or, set}
use Rattle.card.specs.Blocks.{link}

-- where on the card word k of the content of blocks bs lies: 1,023 words to a block
abbrev pub spot_of : List ℕ → ℕ → ℕ
spot_of bs k = 1024 * get_or bs (k / 1023) 0 + k % 1023

-- card W with words vs in the content of blocks bs: the first is word k of the content, the others follow it
abbrev pub written : List ℕ → List ℕ → ℕ → List ℕ → List ℕ
written W bs k [] = W
written W bs k (v ∷ vs) = written (set W (spot_of bs k) v) bs (suc k) vs

-- the block of bs that the first k words of the content reach: that of the last of them, and the first block where k is 0
abbrev pub reached : List ℕ → ℕ → ℕ
reached bs k = get_or bs ((k - 1) / 1023) 0

-- the block of word k, where the k words before it reach block b: the one that b's link names where word k begins a block other than the first
abbrev pub entered : List ℕ → ℕ → ℕ → ℕ
entered W b k = cond (ltb 0 k && eqb (k % 1023) 0) (link W b) b
