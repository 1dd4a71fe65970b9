-- Blocks of a card that is seen as words: 1,024 to a block, of which the last is the link to the partition's next block.
use Rattle.std.specs.Prelude.{Bool, List, ◌++◌, ℕ, suc, ◌+◌, ◌*◌, eqb, ltb, get_or, take, drop}
use Rattle.lists.specs.Lists.{keep, every, up_to}
use Rattle.words.specs.Words.{all_ones}

-- what the last block of a partition has for a link
abbrev pub no_block : ℕ
no_block = 65534

-- the words of block b
abbrev pub block : List ℕ → ℕ → List ℕ
block W b = take 1024 (drop (1024 * b) W)

-- the content of block b: all but its last word
abbrev pub content_of : List ℕ → ℕ → List ℕ
content_of W b = take 1023 (block W b)

-- the block that block b names as the next
abbrev pub link : List ℕ → ℕ → ℕ
link W b = get_or W (1024 * b + 1023) 0

-- every block is one of a card of n
abbrev pub on_card : ℕ → List ℕ → Bool
on_card n bs = every (λ b. ltb b n) bs

-- a free block is all 255
abbrev pub is_free : List ℕ → ℕ → Bool
is_free W b = every (eqb all_ones) (block W b)

-- the blocks of a card of n, upward from the one after the block last taken, round the end; the last taken comes last
abbrev pub after_taken : ℕ → ℕ → List ℕ
after_taken n taken = drop (suc taken) (up_to n) ++ take (suc taken) (up_to n)

-- the free blocks in the order of taking
unfoldable pub free_blocks : List ℕ → ℕ → ℕ → List ℕ
free_blocks W n taken = keep (is_free W) (after_taken n taken)
