-- A window's counts as a list, and the slots of a lent array that hold the counts of several.
use Rattle.std.specs.Prelude.{cond, List, [], ◌∷◌, map, ◌≡◌, ℕ, suc, ◌*◌, ◌≤◌, ◌<◌, eqb, length, get_or, take, drop}
use Rattle.postings.specs.declared.Posting.{Posting}
use Rattle.postings.specs.Pack.{word_count, word_window}
use Rattle.kway.specs.Parts.{part}
use Rattle.sums.specs.declared.Counts.{Counts}

-- the counts
abbrev pub counts_in : Counts → List Posting
counts_in c = take c.used c.postings

-- there are at most 64, as many as told
pub record Neat (c : Counts) : Type 0 where
  pub few : c.used ≤ 64
  pub whole : length (counts_in c) ≡ c.used

-- a count of window w in a word: a posting's word with the identifier in the window's place
abbrev pub count_in : ℕ → ℕ → Posting
count_in w x = record { id = word_window x; window = w; count = word_count x }

-- the counts of window w in its slot: how many, and then a word for each
abbrev pub held_in : ℕ → List ℕ → List Posting
held_in w l = map (count_in w) (take (get_or l 0 0) (drop 1 l))

-- the slot of window w has 65 numbers and at most 64 counts, and none where no window has that number
pub record Tidy (w : ℕ) (l : List ℕ) : Type 0 where
  pub long : length l ≡ 65
  pub few : get_or l 0 0 ≤ 64
  pub low : 1 ≤ get_or l 0 0 → w ≤ 65535

-- n slots without counts
pub record Cleared (n : ℕ) (T : List ℕ) : Type 0 where
  pub long : length T ≡ 65 * n
  pub none : (j : ℕ) → j < n → get_or (part 65 j T) 0 0 ≡ 0

-- the first place at which w is named; past the last where it is not
abbrev pub first_place : ℕ → List ℕ → ℕ
first_place w [] = 0
first_place w (v ∷ vs) = cond (eqb v w) 0 (suc (first_place w vs))

-- the counts of window w, where every window named has a slot
abbrev pub held_for : List ℕ → List ℕ → ℕ → List Posting
held_for ws T w = held_in w (part 65 (first_place w ws) T)
