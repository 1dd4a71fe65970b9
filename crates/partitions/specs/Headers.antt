-- A header as a struct, and as the words that its rule is about.
use Rattle.std.specs.Prelude.{List, [], ◌∷◌, ℕ}
use Rattle.card.specs.Cursors.{word_in}
use Rattle.partitions.specs.declared.Header.{Header}

-- its eight words
abbrev pub header_words : Header → List ℕ
header_words h = h.terms ∷ h.count ∷ h.entries ∷ h.postings ∷ h.total ∷ h.level ∷ h.lowest ∷ h.highest ∷ []

-- the header in block b
abbrev pub header_in : List ℕ → ℕ → Header
header_in W b = record {
  terms = word_in W b 0;
  count = word_in W b 1;
  entries = word_in W b 2;
  postings = word_in W b 3;
  total = word_in W b 4;
  level = word_in W b 5;
  lowest = word_in W b 6;
  highest = word_in W b 7;
}
