-- What a call may do to a card: write blocks that were free, and free blocks.
use Rattle.std.specs.Prelude.{List, [], ◌∷◌, ◌++◌, ℕ, ◌*◌, ◌-◌, length, take, drop, replicate}
use Rattle.std.proofs.lemmas.List.Edits.{sets}
use Rattle.words.specs.Words.{all_ones}
use Rattle.card.specs.Blocks.{no_block}

-- block b with this content, the rest of it 255, and this link
abbrev pub put_block : List ℕ → ℕ → List ℕ → ℕ → List ℕ
put_block W b content next = sets W (1024 * b) (content ++ replicate (1023 - length content) all_ones ++ (next ∷ []))

-- content along blocks, each linked to the next, the last to none
unfoldable pub store : List ℕ → List ℕ → List ℕ → List ℕ
store W [] content = W
store W (b ∷ []) content = put_block W b (take 1023 content) no_block
store W (b ∷ c ∷ bs) content = store (put_block W b (take 1023 content) c) (c ∷ bs) (drop 1023 content)

-- blocks freed: each goes to 255 as a whole
unfoldable pub release : List ℕ → List ℕ → List ℕ
release W [] = W
release W (b ∷ bs) = release (sets W (1024 * b) (replicate 1024 all_ones)) bs
