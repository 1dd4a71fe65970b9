-- Chains: the blocks of a partition by their links.
use Rattle.std.specs.Prelude.{Bool, false, ◌&&◌, List, [], ◌∷◌, ◌++◌, ℕ, zero, suc, ◌+◌, ◌/◌, eqb, ltb}
use Rattle.card.specs.Blocks.{content_of, link, no_block}

-- how many blocks hold so many bytes of content: 4,092 to a block
abbrev pub blocks_for : ℕ → ℕ
blocks_for bytes = (bytes + 4091) / 4092

-- the n blocks from b on, each by the link of the one before
unfoldable pub chain : List ℕ → ℕ → ℕ → List ℕ
chain W b zero = []
chain W b (suc n) = b ∷ chain W (link W b) n

-- a chain has at least one block, each is one of the card's, and the last one names no next block
unfoldable pub chain_rule : List ℕ → ℕ → ℕ → ℕ → Bool
chain_rule W limit b zero = false
chain_rule W limit b (suc zero) = ltb b limit && eqb (link W b) no_block
chain_rule W limit b (suc (suc n)) = ltb b limit && chain_rule W limit (link W b) (suc n)

-- the content of blocks, one after another
unfoldable pub content : List ℕ → List ℕ → List ℕ
content W [] = []
content W (b ∷ bs) = content_of W b ++ content W bs
