-- Storing to free blocks and releasing blocks move words and bytes only as is allowed.
use Rattle.lists.proofs.Prelude.{true, List, [], ◌∷◌, inl, inr, ⊎_elim, ◌≡◌, sym, ap, ◌∙◌, ℕ, zero, suc, ◌*◌, ◌/◌, ◌%◌, ◌<◌, arith, length, get_or, get_or-replicate, every, elem, by-test, every-elem}
use Rattle.words.specs.Words.{words, bytes, all_ones}
use Rattle.words.proofs.Views.{length-words}
use Rattle.card.specs.Blocks.{block, is_free}
use Rattle.blocks.specs.Writes.{store, release}
use Rattle.blocks.specs.Moves.{Fills, Frees, Moves, FillsBytes, FreesBytes, MovesBytes}
use Rattle.card.proofs.Links.{word-in}
use Rattle.blocks.proofs.Stores.{store_apart, release-apart, length-store, length-release}
use Rattle.blocks.proofs.FreeBlocks.{block-released, free-word}

-- Words ------------------------------------------------------------------------------------------------------------

-- a word of a block that does not change stays
pub word_kept : (W W' : List ℕ) (k : ℕ) → block W' (k / 1024) ≡ block W (k / 1024) → get_or W' k 0 ≡ get_or W k 0
word_kept W W' k e = word-in W' k ∙ ap (λ (r : List ℕ). get_or r (k % 1024) 0) e ∙ sym (word-in W k)

-- a store to free blocks
pub store-fills : (W bs c : List ℕ) → every (is_free W) bs ≡ true → Fills W (store W bs c)
store-fills W bs c e k h =
    by-test (elem (k / 1024) bs)
    (λ y. inr (free-word W k h (every-elem (is_free W) bs (k / 1024) e y)))
    (λ f. inl (word_kept W (store W bs c) k (store_apart W bs c (k / 1024) f)))

-- a release
pub release-frees : (W bs : List ℕ) (n : ℕ) → length W ≡ 1024 * n → Frees W (release W bs)
release-frees W bs n long k h =
    by-test (elem (k / 1024) bs)
    (λ y. inr (λ j l e.
    let o = block-released W bs n (k / 1024) long (omega arith) y in
    word-in (release W bs) j ∙ ap (λ (b : ℕ). get_or (block (release W bs) b) (j % 1024) 0) e ∙ ap (λ (r : List ℕ). get_or r (j % 1024) 0) o
    ∙ get_or-replicate 1024 (j % 1024) all_ones 0 (omega arith)))
    (λ f. inl (word_kept W (release W bs) k (release-apart W bs (k / 1024) f)))

-- what only fills moves as is allowed
pub fills-moves : (W W' : List ℕ) → Fills W W' → Moves W W'
fills-moves W W' f k h = ⊎_elim (λ s. inl s) (λ o. inr (inl o)) (f k h)

-- and so does what fills first and frees then
pub fills-frees : (W W' W'' : List ℕ) → length W' ≡ length W → Fills W W' → Frees W' W'' → Moves W W''
fills-frees W W' W'' e f m k h =
    ⊎_elim
    (λ s. ⊎_elim (λ t. inl (t ∙ s)) (λ g. inr (inr (λ j l q. g j (omega arith) q))) (m k (omega arith)))
    (λ o. inr (inl o))
    (f k h)

-- Bytes ------------------------------------------------------------------------------------------------------------

-- four bytes on, one word on
word_on : (k : ℕ) → suc (suc (suc (suc k))) / 4 ≡ suc (k / 4)
word_on k = omega arith

-- a byte tells of its word alone
bytes_same : (us vs : List ℕ) (k : ℕ) → k / 4 < length us → k / 4 < length vs → get_or us (k / 4) 0 ≡ get_or vs (k / 4) 0 → get_or (bytes us) k 0 ≡ get_or (bytes vs) k 0
unfolding bytes
bytes_same [] vs k a b e = absurd (omega arith)
bytes_same (u ∷ us) [] k a b e = absurd (omega arith)
bytes_same (u ∷ us) (v ∷ vs) zero a b e = ap (λ (w : ℕ). w % 256) e
bytes_same (u ∷ us) (v ∷ vs) (suc zero) a b e = ap (λ (w : ℕ). w / 256 % 256) e
bytes_same (u ∷ us) (v ∷ vs) (suc (suc zero)) a b e = ap (λ (w : ℕ). w / 65536 % 256) e
bytes_same (u ∷ us) (v ∷ vs) (suc (suc (suc zero))) a b e = ap (λ (w : ℕ). w / 16777216) e
bytes_same (u ∷ us) (v ∷ vs) (suc (suc (suc (suc k)))) a b e = bytes_same us vs k (omega arith) (omega arith) (rw (word_on k) at e)

-- the bytes of a word that is all ones
bytes-ones : (us : List ℕ) (k : ℕ) → k / 4 < length us → get_or us (k / 4) 0 ≡ all_ones → get_or (bytes us) k 0 ≡ 255
unfolding bytes
bytes-ones [] k a e = absurd (omega arith)
bytes-ones (u ∷ us) zero a e = ap (λ (w : ℕ). w % 256) e
bytes-ones (u ∷ us) (suc zero) a e = ap (λ (w : ℕ). w / 256 % 256) e
bytes-ones (u ∷ us) (suc (suc zero)) a e = ap (λ (w : ℕ). w / 65536 % 256) e
bytes-ones (u ∷ us) (suc (suc (suc zero))) a e = ap (λ (w : ℕ). w / 16777216) e
bytes-ones (u ∷ us) (suc (suc (suc (suc k)))) a e = bytes-ones us k (omega arith) (rw (word_on k) at e)

-- what the words of a card may do, its bytes may do, where these are the bytes of its words
module _ (card W' : List ℕ) (p : bytes (words card) ≡ card) (m : length card % 4 ≡ 0) (l : length W' ≡ length (words card)) where
  byte-stays : (k : ℕ) → k < length card → get_or W' (k / 4) 0 ≡ get_or (words card) (k / 4) 0 → get_or (bytes W') k 0 ≡ get_or card k 0
  byte-stays k h s =
      let n = length-words card in
      bytes_same W' (words card) k (omega arith) (omega arith) s ∙ ap (λ (b : List ℕ). get_or b k 0) p

  byte-was : (k : ℕ) → k < length card → get_or (words card) (k / 4) 0 ≡ all_ones → get_or card k 0 ≡ 255
  byte-was k h o =
      let n = length-words card in
      ap (λ (b : List ℕ). get_or b k 0) (sym p) ∙ bytes-ones (words card) k (omega arith) o

  bytes-go : (k : ℕ) → ((j : ℕ) → j < length (words card) → j / 1024 ≡ k / 4 / 1024 → get_or W' j 0 ≡ all_ones)
      → (j : ℕ) → j < length card → j / 4096 ≡ k / 4096 → get_or (bytes W') j 0 ≡ 255
  bytes-go k g j a q = let n = length-words card in bytes-ones W' j (omega arith) (g (j / 4) (omega arith) (omega arith))

  -- words that are filled are bytes that are filled
  pub fills-bytes : Fills (words card) W' → FillsBytes card (bytes W')
  fills-bytes f k h =
      let n = length-words card in
      ⊎_elim (λ s. inl (byte-stays k h s)) (λ o. inr (byte-was k h o)) (f (k / 4) (omega arith))

  -- words that are freed by blocks are bytes that are freed by blocks
  pub frees-bytes : Frees (words card) W' → FreesBytes card (bytes W')
  frees-bytes f k h =
      let n = length-words card in
      ⊎_elim (λ s. inl (byte-stays k h s)) (λ g. inr (bytes-go k g)) (f (k / 4) (omega arith))

  -- and both together
  pub moves-bytes : Moves (words card) W' → MovesBytes card (bytes W')
  moves-bytes f k h =
      let n = length-words card in
      ⊎_elim (λ s. inl (byte-stays k h s)) (λ r. inr (⊎_elim (λ o. inl (byte-was k h o)) (λ g. inr (bytes-go k g)) r)) (f (k / 4) (omega arith))

-- on a card of n blocks
module _ (card : List ℕ) (n : ℕ) (p : bytes (words card) ≡ card) (long : length card ≡ 4096 * n) where
  words_long : length (words card) ≡ 1024 * n
  words_long = omega (arith, length-words card)

  -- a store to free blocks: each byte stays or was 255
  pub store_bytes : (bs c : List ℕ) → every (is_free (words card)) bs ≡ true → FillsBytes card (bytes (store (words card) bs c))
  store_bytes bs c e = let W = words card in fills-bytes card (store W bs c) p (omega arith) (length-store W bs c) (store-fills W bs c e)

  -- a release: each byte stays or goes to 255 with its whole block
  pub release-bytes : (bs : List ℕ) → FreesBytes card (bytes (release (words card) bs))
  release-bytes bs = let W = words card in frees-bytes card (release W bs) p (omega arith) (length-release W bs) (release-frees W bs n words_long)

  -- a store that only fills, and a release after it
  pub store-release-bytes : (bs c ds : List ℕ) → Fills (words card) (store (words card) bs c) → MovesBytes card (bytes (release (store (words card) bs c) ds))
  store-release-bytes bs c ds f =
      let W = words card in
      let W' = store W bs c in
      moves-bytes card (release W' ds) p (omega arith) (length-release W' ds ∙ length-store W bs c)
      (fills-frees W W' (release W' ds) (length-store W bs c) f (release-frees W' ds n (length-store W bs c ∙ words_long)))
