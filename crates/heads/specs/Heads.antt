-- Heads of an identifier's lists in an array of numbers, four to a head: one more than the window at the head (0 where the list is spent), the head's
-- word, its place, and how many words are to come. A place below 4,194,304, the words of the largest card, is one on the card; the places from there on
-- are those of the run, the words of the buffer's postings.
use Rattle.std.specs.Prelude.{cond, List, map, ◌≡◌, ℕ, ◌+◌, ◌-◌, ◌/◌, ◌%◌, ◌<◌, ◌≤◌, ltb, length, get_or, take, drop}
use Rattle.std.proofs.Common.{arith}
use Rattle.keyed.specs.Keys.{Item, reach}
use Rattle.postings.specs.Pack.{word_count, word_window, is_posting}
use Rattle.card.specs.declared.Cursor.{Cursor}
use Rattle.card.specs.Cursors.{ahead, Good}
use Rattle.kway.specs.Parts.{parts}
use Rattle.kway.specs.Sources.{SourceLaws}

-- what a posting's word says, and whether it holds a posting
abbrev pub item_of : ℕ → Item
item_of x = record { key = word_window x; val = word_count x; fine = is_posting x }

-- the cursor at a place of the card
abbrev pub cursor_at : ℕ → ℕ → Cursor
cursor_at p n = record { block = p / 1024; word = p % 1024; left = n }

-- the word at a place, on the card W or in the run R
unfoldable pub word_at : List ℕ → List ℕ → ℕ → ℕ
word_at W R p = cond (ltb p 4194304) (get_or W p 0) (get_or R (p - 4194304) 0)

-- n words from a place on: along the blocks' links on the card, one after another in the run
unfoldable pub comes : List ℕ → List ℕ → ℕ → ℕ → List ℕ
comes W R p n = cond (ltb p 4194304) (ahead W (cursor_at p n)) (take n (drop (p - 4194304) R))

-- all of them can be read
pub record Lies (W R : List ℕ) (p n : ℕ) : Type 0 where
  pub card : 0 < n → p < 4194304 → Good W (cursor_at p n)
  pub run : 0 < n → 4194304 ≤ p → (p - 4194304 + n ≤ length R) × (p + n ≤ 4194432)

-- the words that a head has still to come, its own the first
abbrev pub coming : List ℕ → List ℕ → List ℕ → List ℕ
coming W R h = comes W R (get_or h 2 0) (get_or h 3 0)

-- what they say
unfoldable pub view : List ℕ → List ℕ → List ℕ → List Item
view W R h = map item_of (coming W R h)

-- a head that can be read, with its word and its reach
pub record Kept (W R h : List ℕ) : Type 0 where
  pub four : length h ≡ 4
  pub lies : Lies W R (get_or h 2 0) (get_or h 3 0)
  pub word : 0 < get_or h 3 0 → get_or h 1 0 ≡ word_at W R (get_or h 2 0)
  pub top : get_or h 0 0 ≡ reach (view W R h)

-- what the first n heads have still to come
abbrev pub views : List ℕ → List ℕ → ℕ → List ℕ → List (List Item)
views W R n H = map (view W R) (parts 4 n H)

-- such heads keep the laws of a source
pub sourced : {S : Type 0} (W R : S → List ℕ) → SourceLaws 4 (λ s. Kept (W s) (R s)) (λ s. view (W s) (R s))
sourced W R = record { some = omega arith; few = omega arith; long = λ s h k. k.four; top = λ s h k. k.top }
