-- A list of bytes and the list of its words: each is known by the other.
use Rattle.lists.proofs.Prelude.{List, [], ◌∷◌, ◌++◌, ◌≡◌, refl, sym, ℕ, zero, suc, ◌+◌, ◌*◌, ◌/◌, ◌%◌, ◌^◌, ◌<◌, arith, length, get_or, take, drop, set, replicate}
use Rattle.words.specs.Words.{joined4, words, bytes, all_ones, Below}

-- Lengths -----------------------------------------------------------------------------------------------------------

-- a word for each four bytes
pub length-words : (b : List ℕ) → length (words b) ≡ length b / 4
unfolding words
length-words [] = refl
length-words (x ∷ []) = refl
length-words (x ∷ y ∷ []) = refl
length-words (x ∷ y ∷ z ∷ []) = refl
length-words (x ∷ y ∷ z ∷ w ∷ l) = let h = length-words l in omega arith

-- for a crate's `using`
pub ruleset lengths = (length-words)

-- four bytes for each word
pub length-bytes : (ws : List ℕ) → length (bytes ws) ≡ 4 * length ws
unfolding bytes
length-bytes [] = refl
length-bytes (w ∷ ws) = let h = length-bytes ws in omega arith

-- a word has room for its four bytes
pub room : (b : List ℕ) (i : ℕ) → i < length (words b) → 4 * i + 3 < length b
room b i h = omega (arith, length-words b)

-- One word ----------------------------------------------------------------------------------------------------------

-- 4 * suc i as a list is counted off
four-on : (i : ℕ) → 4 * suc i ≡ suc (suc (suc (suc (4 * i))))
four-on i = omega arith

-- the same with a place past it
four-more : (i j : ℕ) → 4 * suc i + j ≡ suc (suc (suc (suc (4 * i + j))))
four-more i j = omega arith

-- a word is its four bytes joined
pub word_at : (b : List ℕ) (i : ℕ) → i < length (words b)
    → get_or (words b) i 0 ≡ joined4 (get_or b (4 * i) 0) (get_or b (4 * i + 1) 0) (get_or b (4 * i + 2) 0) (get_or b (4 * i + 3) 0)
unfolding words
word_at [] i h = absurd (omega arith)
word_at (x ∷ []) i h = absurd (omega arith)
word_at (x ∷ y ∷ []) i h = absurd (omega arith)
word_at (x ∷ y ∷ z ∷ []) i h = absurd (omega arith)
word_at (x ∷ y ∷ z ∷ w ∷ l) zero h = refl
word_at (x ∷ y ∷ z ∷ w ∷ l) (suc i) h = rw (four-more i 1, four-more i 2, four-more i 3, four-on i) (word_at l i (omega arith))

-- four bytes put in place of a word's are that word put among the words
pub words-set : (b : List ℕ) (i p q r s : ℕ) → i < length (words b)
    → words (take (4 * i) b ++ (p ∷ q ∷ r ∷ s ∷ drop 4 (drop (4 * i) b))) ≡ set (words b) i (joined4 p q r s)
unfolding words
words-set [] i p q r s h = absurd (omega arith)
words-set (x ∷ []) i p q r s h = absurd (omega arith)
words-set (x ∷ y ∷ []) i p q r s h = absurd (omega arith)
words-set (x ∷ y ∷ z ∷ []) i p q r s h = absurd (omega arith)
words-set (x ∷ y ∷ z ∷ w ∷ l) zero p q r s h = refl
words-set (x ∷ y ∷ z ∷ w ∷ l) (suc i) p q r s h = rw (four-on i) (rw (words-set l i p q r s (omega arith)))

-- words of bytes are below 2 ^ 32
pub words-below : (b : List ℕ) → Below 256 b → Below 4294967296 (words b)
unfolding words
words-below [] h i = omega (arith, h i)
words-below (x ∷ []) h i = omega arith
words-below (x ∷ y ∷ []) h i = omega arith
words-below (x ∷ y ∷ z ∷ []) h i = omega arith
words-below (x ∷ y ∷ z ∷ w ∷ l) h zero = omega (arith, h 0, h 1, h 2, h 3)
words-below (x ∷ y ∷ z ∷ w ∷ l) h (suc i) = words-below l (λ j. h (suc (suc (suc (suc j))))) i

-- There and back ----------------------------------------------------------------------------------------------------

-- the bytes of words, read as words again
pub words-bytes : (ws : List ℕ) → words (bytes ws) ≡ ws
unfolding words bytes
words-bytes [] = refl
words-bytes (w ∷ ws) =
    let e : joined4 (w % 256) (w / 256 % 256) (w / 65536 % 256) (w / 16777216) ≡ w = omega arith in
    rw (e, words-bytes ws)

-- the bytes of words below 2 ^ 32 are below 256
pub bytes_below : (ws : List ℕ) → Below 4294967296 ws → Below 256 (bytes ws)
unfolding bytes
bytes_below [] h i = omega (arith, h i)
bytes_below (w ∷ ws) h zero = omega arith
bytes_below (w ∷ ws) h (suc zero) = omega arith
bytes_below (w ∷ ws) h (suc (suc zero)) = omega arith
bytes_below (w ∷ ws) h (suc (suc (suc zero))) = omega (arith, h 0)
bytes_below (w ∷ ws) h (suc (suc (suc (suc i)))) = bytes_below ws (λ j. h (suc j)) i

-- a word taken apart is the bytes that it was joined from
pub apart : (x y z w : ℕ) → x < 256 → y < 256 → z < 256 → w < 256
    → (joined4 x y z w % 256 ≡ x) × (joined4 x y z w / 256 % 256 ≡ y) × (joined4 x y z w / 65536 % 256 ≡ z) × (joined4 x y z w / 16777216 ≡ w)
apart x y z w p q r s =
    let d1 : joined4 x y z w / 256 ≡ y + 256 * z + 65536 * w = omega arith in
    let d2 : joined4 x y z w / 65536 ≡ z + 256 * w = omega arith in
    (omega arith, rw d1 (omega arith), rw d2 (omega arith), omega arith)

-- the words of bytes, taken apart again
pub bytes-words : (b : List ℕ) → Below 256 b → length b % 4 ≡ 0 → bytes (words b) ≡ b
unfolding words bytes
bytes-words [] h m = refl
bytes-words (x ∷ []) h m = absurd (omega arith)
bytes-words (x ∷ y ∷ []) h m = absurd (omega arith)
bytes-words (x ∷ y ∷ z ∷ []) h m = absurd (omega arith)
bytes-words (x ∷ y ∷ z ∷ w ∷ l) h m =
    let e = apart x y z w (h 0) (h 1) (h 2) (h 3) in
    rw (e.0, e.1, e.2, e.3, bytes-words l (λ j. h (suc (suc (suc (suc j))))) (omega arith))

-- Parts -------------------------------------------------------------------------------------------------------------

-- the first n words are the words of the first 4 * n bytes
pub words_take : (n : ℕ) (b : List ℕ) → words (take (4 * n) b) ≡ take n (words b)
unfolding words
words_take zero b = refl
words_take (suc n) [] = rw (four-on n)
words_take (suc n) (x ∷ []) = rw (four-on n)
words_take (suc n) (x ∷ y ∷ []) = rw (four-on n)
words_take (suc n) (x ∷ y ∷ z ∷ []) = rw (four-on n)
words_take (suc n) (x ∷ y ∷ z ∷ w ∷ l) = rw (four-on n) (rw (words_take n l))

-- the words past the first n are those of the bytes past 4 * n
pub words-drop : (n : ℕ) (b : List ℕ) → words (drop (4 * n) b) ≡ drop n (words b)
unfolding words
words-drop zero b = refl
words-drop (suc n) [] = rw (four-on n)
words-drop (suc n) (x ∷ []) = rw (four-on n)
words-drop (suc n) (x ∷ y ∷ []) = rw (four-on n)
words-drop (suc n) (x ∷ y ∷ z ∷ []) = rw (four-on n)
words-drop (suc n) (x ∷ y ∷ z ∷ w ∷ l) = rw (four-on n) (words-drop n l)

-- whole words before a list
pub words_append : (a b : List ℕ) → length a % 4 ≡ 0 → words (a ++ b) ≡ words a ++ words b
unfolding words
words_append [] b m = refl
words_append (x ∷ []) b m = absurd (omega arith)
words_append (x ∷ y ∷ []) b m = absurd (omega arith)
words_append (x ∷ y ∷ z ∷ []) b m = absurd (omega arith)
words_append (x ∷ y ∷ z ∷ w ∷ l) b m = rw (words_append l b (omega arith))

-- one byte over and over is one word over and over
pub words-replicate : (n x : ℕ) → words (replicate (4 * n) x) ≡ replicate n (joined4 x x x x)
unfolding words
words-replicate zero x = refl
words-replicate (suc n) x = rw (four-on n) (rw (words-replicate n x))

-- so bytes of 255 are words of all ones
pub words-ones : (n : ℕ) → words (replicate (4 * n) 255) ≡ replicate n all_ones
words-ones n = words-replicate n 255

-- The bytes of one word ---------------------------------------------------------------------------------------------

-- byte j of a word, from the lowest
abbrev pub byte_of : ℕ → ℕ → ℕ
byte_of w j = w / 256 ^ j % 256

-- a place by its word and its place in the word
byte-in : (b : List ℕ) (i j : ℕ) → Below 256 b → i < length (words b) → j < 4 → get_or b (4 * i + j) 0 ≡ byte_of (get_or (words b) i 0) j
byte-in b i zero h l t =
    let e : 4 * i + 0 ≡ 4 * i = omega arith in
    rw (e, word_at b i l) (omega (arith, h (4 * i), (apart _ _ _ _ (h (4 * i)) (h (4 * i + 1)) (h (4 * i + 2)) (h (4 * i + 3))).0))
byte-in b i (suc zero) h l t = rw (word_at b i l) (sym (apart _ _ _ _ (h (4 * i)) (h (4 * i + 1)) (h (4 * i + 2)) (h (4 * i + 3))).1)
byte-in b i (suc (suc zero)) h l t = rw (word_at b i l) (sym (apart _ _ _ _ (h (4 * i)) (h (4 * i + 1)) (h (4 * i + 2)) (h (4 * i + 3))).2)
byte-in b i (suc (suc (suc zero))) h l t =
    rw (word_at b i l) (omega (arith, h (4 * i + 3), (apart _ _ _ _ (h (4 * i)) (h (4 * i + 1)) (h (4 * i + 2)) (h (4 * i + 3))).3))
byte-in b i (suc (suc (suc (suc j)))) h l t = absurd (omega arith)

-- byte k of a list is byte k % 4 of word k / 4
pub byte_at : (b : List ℕ) → Below 256 b → (k : ℕ) → k / 4 < length (words b) → get_or b k 0 ≡ byte_of (get_or (words b) (k / 4) 0) (k % 4)
byte_at b h k l =
    let e : 4 * (k / 4) + k % 4 ≡ k = omega arith in
    rw e at (byte-in b (k / 4) (k % 4) h l (omega arith))
