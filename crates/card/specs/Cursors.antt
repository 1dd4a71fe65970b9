-- A cursor on a chain of blocks, and the words that it has still to come.
use Rattle.std.specs.Prelude.{cond, ◌&&◌, List, [], ◌∷◌, ℕ, zero, suc, ◌+◌, ◌-◌, ◌*◌, ◌<◌, eqb, ltb, length, get_or}
use Rattle.lists.specs.All.{AllOf}
use Rattle.card.specs.declared.Cursor.{Cursor}
use Rattle.card.specs.Blocks.{link}
use Rattle.card.specs.Chains.{chain}

-- word i of block b
abbrev pub word_in : List ℕ → ℕ → ℕ → ℕ
word_in W b i = get_or W (1024 * b + i) 0

-- b is a block of the card, which has at most 4,096
pub record InCard (W : List ℕ) (b : ℕ) : Type 0 where
  pub few : b < 4096
  pub inside : 1024 * b + 1023 < length W

-- the n blocks from b on, by their links, are blocks of the card
abbrev pub Chained : List ℕ → ℕ → ℕ → Type 0
Chained W b n = AllOf (InCard W) (chain W b n)

-- after word 1,022 of a block comes word 0 of the block that its link names
abbrev pub next_block : List ℕ → ℕ → ℕ → ℕ
next_block W b i = cond (eqb i 1022) (link W b) b

-- the place of that word
abbrev pub next_word : ℕ → ℕ
next_word i = cond (eqb i 1022) 0 (i + 1)

-- n content words, from word i of block b on
unfoldable pub ahead_at : List ℕ → ℕ → ℕ → ℕ → List ℕ
ahead_at W zero b i = []
ahead_at W (suc n) b i = word_in W b i ∷ ahead_at W n (next_block W b i) (next_word i)

-- what a cursor has still to come
abbrev pub ahead : List ℕ → Cursor → List ℕ
ahead W c = ahead_at W c.left c.block c.word

-- each of these words is a content word of a block of the card
unfoldable pub good_at : List ℕ → ℕ → ℕ → ℕ → Type 0
good_at W zero b i = Unit {0}
good_at W (suc n) b i = (i < 1023) × InCard W b × good_at W n (next_block W b i) (next_word i)

-- of a cursor: all that it has still to come can be read
abbrev pub Good : List ℕ → Cursor → Type 0
Good W c = good_at W c.left c.block c.word

-- the first word to come
abbrev pub head_of : List ℕ → Cursor → ℕ
head_of W c = word_in W c.block c.word

-- the cursor past its first word; a link is followed only to a word that is to come, as the last link names no block
abbrev pub moved_of : List ℕ → Cursor → Cursor
moved_of W c =
    cond
    (eqb c.word 1022 && ltb 1 c.left)
    (record { block = link W c.block; word = 0; left = c.left - 1 })
    (record { block = c.block; word = c.word + 1; left = c.left - 1 })
