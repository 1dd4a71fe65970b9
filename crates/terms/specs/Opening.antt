-- Where the lists of an identifier start: in each finished partition, and in the run.
use Rattle.std.specs.Prelude.{List, map, ◌≡◌, ℕ, ◌+◌, ◌*◌, ltb, length, take}
use Rattle.std.specs.List.{prefix_len}
use Rattle.postings.specs.declared.Posting.{Posting}
use Rattle.postings.specs.Pack.{packed, posted}
use Rattle.postings.specs.Sums.{under}
use Rattle.state.specs.declared.Buffer.{Buffer}
use Rattle.state.specs.declared.State.{State}
use Rattle.state.specs.Views.{buffered, finished}
use Rattle.partitions.specs.Reading.{postings_of}
use Rattle.kway.specs.Parts.{part, parts}
use Rattle.heads.specs.Heads.{coming}
use Rattle.terms.specs.Both.{Ready}

-- how many postings at the front have an identifier below i
abbrev pub lower : ℕ → List Posting → ℕ
lower i ps = prefix_len (λ p. ltb p.id i) ps

-- the word of a posting
abbrev pub word_for : Posting → ℕ
word_for p = packed p.count p.window

-- the run has the words of the buffer's postings, in the buffer's order
pub record Packed (b : Buffer) (R : List ℕ) : Type 0 where
  pub long : length R ≡ 128
  pub words : take b.used R ≡ map word_for (buffered b)

-- the postings of the identifier i that a head has still to come
abbrev pub listed : List ℕ → List ℕ → ℕ → List ℕ → List Posting
listed W R i h = map (posted i) (coming W R h)

-- the heads stand at the start of the identifier's lists, as many as there are finished partitions, and of its part of the run
pub record Opens (W R : List ℕ) (s : State) (i : ℕ) (H : List ℕ) : Type 0 where
  pub long : length H ≡ 4 * s.partitions.used + 4
  pub ready : Ready W R s.partitions.used H
  pub lists : map (listed W R i) (parts 4 s.partitions.used H) ≡ map (λ p. under i (postings_of W p)) (finished s.partitions)
  pub run : listed W R i (part 4 s.partitions.used H) ≡ under i (buffered s.buffer)
