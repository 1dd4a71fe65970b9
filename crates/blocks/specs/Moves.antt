-- "In one call": what a call may do to a card, as words and as bytes.
use Rattle.std.specs.Prelude.{List, ◌⊎◌, ◌≡◌, ℕ, ◌/◌, ◌<◌, length, get_or}
use Rattle.words.specs.Words.{all_ones}

-- from W to W' each word stays, or was all ones
abbrev pub Fills : List ℕ → List ℕ → Type 0
Fills W W' = (k : ℕ) → k < length W → (get_or W' k 0 ≡ get_or W k 0) ⊎ (get_or W k 0 ≡ all_ones)

-- each word stays, or every word of its block goes to all ones
abbrev pub Frees : List ℕ → List ℕ → Type 0
Frees W W' =
    (k : ℕ) → k < length W → (get_or W' k 0 ≡ get_or W k 0) ⊎ ((j : ℕ) → j < length W → j / 1024 ≡ k / 1024 → get_or W' j 0 ≡ all_ones)

-- one or the other
abbrev pub Moves : List ℕ → List ℕ → Type 0
Moves W W' =
    (k : ℕ) → k < length W
    → (get_or W' k 0 ≡ get_or W k 0) ⊎ (get_or W k 0 ≡ all_ones) ⊎ ((j : ℕ) → j < length W → j / 1024 ≡ k / 1024 → get_or W' j 0 ≡ all_ones)

-- from card to card' each byte stays, or was 255
abbrev pub FillsBytes : List ℕ → List ℕ → Type 0
FillsBytes card card' = (k : ℕ) → k < length card → (get_or card' k 0 ≡ get_or card k 0) ⊎ (get_or card k 0 ≡ 255)

-- each byte stays, or every byte of its block goes to 255
abbrev pub FreesBytes : List ℕ → List ℕ → Type 0
FreesBytes card card' =
    (k : ℕ) → k < length card → (get_or card' k 0 ≡ get_or card k 0) ⊎ ((j : ℕ) → j < length card → j / 4096 ≡ k / 4096 → get_or card' j 0 ≡ 255)

-- document 01's rule of a card's bytes
abbrev pub MovesBytes : List ℕ → List ℕ → Type 0
MovesBytes card card' =
    (k : ℕ) → k < length card
    → (get_or card' k 0 ≡ get_or card k 0) ⊎ (get_or card k 0 ≡ 255) ⊎ ((j : ℕ) → j < length card → j / 4096 ≡ k / 4096 → get_or card' j 0 ≡ 255)
