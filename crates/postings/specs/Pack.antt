-- A signed count and a window in one word of 32 bits, as plain arithmetic.
use Rattle.std.specs.Prelude.{Bool, not, ◌&&◌, ℕ, zero, suc, ◌+◌, ◌*◌, ◌/◌, ◌%◌, eqb, ℤ, pos, negsuc, neg_ℤ}
use Rattle.postings.specs.declared.Posting.{Posting}

-- the low half of a word: the count's size, and 32768 more for a count below 0
abbrev pub half : ℤ → ℕ
half (pos n) = n
half (negsuc n) = 32768 + (n + 1)

-- the word: the window above the half
abbrev pub packed : ℤ → ℕ → ℕ
packed c w = w * 65536 + half c

-- a size with its sign bit
abbrev pub signed : ℕ → ℕ → ℤ
signed zero n = pos n
signed (suc b) n = neg_ℤ (pos n)

-- the count that a low half stands for
abbrev pub count_of : ℕ → ℤ
count_of h = signed (h / 32768) (h % 32768)

-- the count of a word
abbrev pub word_count : ℕ → ℤ
word_count x = count_of (x % 65536)

-- the window of a word
abbrev pub word_window : ℕ → ℕ
word_window x = x / 65536

-- does a word hold a posting: neither its window nor its size is 0, whatever the sign bit
abbrev pub is_posting : ℕ → Bool
is_posting x = not (eqb (x / 65536) 0) && not (eqb (x % 32768) 0)

-- the posting that a word stands for under the identifier i
abbrev pub posted : ℕ → ℕ → Posting
posted i x = record { id = i; window = word_window x; count = word_count x }
