-- The state as bytes: 716 little-endian words, one for each number, in the order in which the state names them.
use Rattle.std.specs.Prelude.{Bool, ◌||◌, ◌&&◌, cond, List, [], ◌∷◌, ◌++◌, map, ℕ, ◌+◌, ◌-◌, ◌*◌, ◌%◌, eqb, ltb, leb, ℤ, pos, negsuc, length, get_or}
use Rattle.lists.specs.Lists.{every, joined, up_to}
use Rattle.words.specs.Words.{words}
use Rattle.postings.specs.declared.Posting.{Posting}
use Rattle.state.specs.declared.Lengths.{Lengths}
use Rattle.state.specs.declared.Windows.{Windows}
use Rattle.state.specs.declared.Listed.{Listed}
use Rattle.state.specs.declared.Buffer.{Buffer}
use Rattle.state.specs.declared.Partition.{Partition}
use Rattle.state.specs.declared.Partitions.{Partitions}
use Rattle.state.specs.declared.MergeJob.{MergeJob}
use Rattle.state.specs.declared.State.{State}

-- a signed count as a number: 32,768 more than it
abbrev pub raised : ℤ → ℕ
raised (pos n) = 32768 + n
raised (negsuc n) = 32767 - n

-- the way back
abbrev pub lowered : ℕ → ℤ
lowered x = cond (leb 32768 x) (pos (x - 32768)) (negsuc (32767 - x))

-- ---- from a state to its words

-- a posting: its identifier's number, its window, its count
abbrev pub posting_words : Posting → List ℕ
posting_words p = p.id ∷ p.window ∷ raised p.count ∷ []

-- a finished partition: its first block, its level, its length, its lowest and its highest window
abbrev pub record_words : Partition → List ℕ
record_words p = p.first ∷ p.level ∷ p.length ∷ p.lowest ∷ p.highest ∷ []

-- the words of each part
abbrev pub number_words : Lengths → Windows → List ℕ
number_words l w = l.card ∷ l.register ∷ w.last ∷ w.live ∷ w.current ∷ w.events ∷ []

abbrev pub listed_words : Listed → List ℕ
listed_words l = l.used ∷ l.ids

abbrev pub buffer_words : Buffer → List ℕ
buffer_words b = b.used ∷ joined (map posting_words b.postings)

abbrev pub partitions_words : Partitions → List ℕ
partitions_words p = p.used ∷ joined (map record_words p.records)

abbrev pub last_words : ℕ → MergeJob → List ℕ
last_words taken m = taken ∷ m.first ∷ m.length ∷ m.steps ∷ []

-- the image: words 0 to 5, 6 to 70, 71 to 455, 456 to 711, 712 to 715
unfoldable pub image_of : State → List ℕ
image_of s =
    number_words s.lengths s.windows
    ++ (listed_words s.listed ++ (buffer_words s.buffer ++ (partitions_words s.partitions ++ last_words s.taken s.merge)))

-- ---- from words to the state

abbrev pub listed_in : List ℕ → Listed
listed_in w = record { used = get_or w 6 0; ids = map (λ i. get_or w (7 + i) 0) (up_to 64) }

abbrev pub posting_in : List ℕ → ℕ → Posting
posting_in w i = record { id = get_or w (72 + 3 * i) 0; window = get_or w (73 + 3 * i) 0; count = lowered (get_or w (74 + 3 * i) 0) }

abbrev pub buffer_in : List ℕ → Buffer
buffer_in w = record { used = get_or w 71 0; postings = map (posting_in w) (up_to 128) }

abbrev pub record_in : List ℕ → ℕ → Partition
record_in w i = record {
  first = get_or w (457 + 5 * i) 0;
  level = get_or w (458 + 5 * i) 0;
  length = get_or w (459 + 5 * i) 0;
  lowest = get_or w (460 + 5 * i) 0;
  highest = get_or w (461 + 5 * i) 0;
}

abbrev pub partitions_in : List ℕ → Partitions
partitions_in w = record { used = get_or w 456 0; records = map (record_in w) (up_to 51) }

abbrev pub lengths_in : List ℕ → Lengths
lengths_in w = record { card = get_or w 0 0; register = get_or w 1 0 }

abbrev pub windows_in : List ℕ → Windows
windows_in w = record { last = get_or w 2 0; live = get_or w 3 0; current = get_or w 4 0; events = get_or w 5 0 }

abbrev pub merge_in : List ℕ → MergeJob
merge_in w = record { first = get_or w 713 0; length = get_or w 714 0; steps = get_or w 715 0 }

unfoldable pub state_in : List ℕ → State
state_in w = record {
  lengths = lengths_in w;
  windows = windows_in w;
  listed = listed_in w;
  buffer = buffer_in w;
  partitions = partitions_in w;
  taken = get_or w 712 0;
  merge = merge_in w;
}

-- ---- which bytes are an image

-- the places of numbers that may need all 32 bits: the lengths of the buffers, of the partitions and of the output, and the steps
abbrev pub wide : ℕ → Bool
wide i = ltb i 2 || (leb 714 i || (leb 457 i && (ltb i 712 && eqb ((i - 457) % 5) 2)))

-- every other number is below 65,536
abbrev pub fits : List ℕ → ℕ → Bool
fits w i = wide i || ltb (get_or w i 0) 65536

-- 716 words, each of which fits its place
unfoldable pub image_rule : List ℕ → Bool
image_rule image = eqb (length image) 2864 && every (fits (words image)) (up_to 716)
