-- The parts of a state as lists, and a state with other parts. A list is put back with zeros after it, so that one content has one form.
use Rattle.std.specs.Prelude.{List, ◌++◌, ℕ, ◌-◌, ◌/◌, pos, length, take, replicate}
use Rattle.postings.specs.declared.Posting.{Posting}
use Rattle.state.specs.declared.Windows.{Windows}
use Rattle.state.specs.declared.Listed.{Listed}
use Rattle.state.specs.declared.Buffer.{Buffer}
use Rattle.state.specs.declared.Partition.{Partition}
use Rattle.state.specs.declared.Partitions.{Partitions}
use Rattle.state.specs.declared.MergeJob.{MergeJob}
use Rattle.state.specs.declared.State.{State}

-- the list with d after it, n places in all
abbrev pub padded : {A : Type 0} → ℕ → A → List A → List A
padded n d l = l ++ replicate (n - length l) d

-- ---- zeros

abbrev pub no_posting : Posting
no_posting = record { id = 0; window = 0; count = pos 0 }

abbrev pub no_partition : Partition
no_partition = record { first = 0; level = 0; length = 0; lowest = 0; highest = 0 }

abbrev pub no_merge : MergeJob
no_merge = record { first = 0; length = 0; steps = 0 }

-- ---- parts as lists

-- the card's blocks
abbrev pub blocks : State → ℕ
blocks s = s.lengths.card / 4096

-- the register's register_size
abbrev pub register_size : State → ℕ
register_size s = s.lengths.register / 65

-- the numbers of the open window's identifiers, in order of first count
abbrev pub listed : Listed → List ℕ
listed l = take l.used l.ids

-- the buffered postings
abbrev pub buffered : Buffer → List Posting
buffered b = take b.used b.postings

-- the finished partitions, oldest first
abbrev pub finished : Partitions → List Partition
finished p = take p.used p.records

-- ---- lists as parts

abbrev pub listed_of : List ℕ → Listed
listed_of l = record { used = length l; ids = padded 64 0 l }

abbrev pub buffer_of : List Posting → Buffer
buffer_of l = record { used = length l; postings = padded 128 no_posting l }

abbrev pub partitions_of : List Partition → Partitions
partitions_of l = record { used = length l; records = padded 51 no_partition l }

-- ---- a state with another part

abbrev pub with_windows : State → Windows → State
with_windows s w =
    record { lengths = s.lengths; windows = w; listed = s.listed; buffer = s.buffer; partitions = s.partitions; taken = s.taken; merge = s.merge }

abbrev pub with_listed : State → Listed → State
with_listed s l =
    record { lengths = s.lengths; windows = s.windows; listed = l; buffer = s.buffer; partitions = s.partitions; taken = s.taken; merge = s.merge }

abbrev pub with_buffer : State → Buffer → State
with_buffer s b =
    record { lengths = s.lengths; windows = s.windows; listed = s.listed; buffer = b; partitions = s.partitions; taken = s.taken; merge = s.merge }

abbrev pub with_partitions : State → Partitions → State
with_partitions s p =
    record { lengths = s.lengths; windows = s.windows; listed = s.listed; buffer = s.buffer; partitions = p; taken = s.taken; merge = s.merge }

abbrev pub with_taken : State → ℕ → State
with_taken s t =
    record { lengths = s.lengths; windows = s.windows; listed = s.listed; buffer = s.buffer; partitions = s.partitions; taken = t; merge = s.merge }

abbrev pub with_merge : State → MergeJob → State
with_merge s m =
    record { lengths = s.lengths; windows = s.windows; listed = s.listed; buffer = s.buffer; partitions = s.partitions; taken = s.taken; merge = m }

-- the state of zeros, with these lengths and this block last taken: a state without windows
abbrev pub empty_state : ℕ → ℕ → ℕ → State
empty_state card register taken = record {
  lengths = record { card = card; register = register };
  windows = record { last = 0; live = 0; current = 0; events = 0 };
  listed = record { used = 0; ids = replicate 64 0 };
  buffer = record { used = 0; postings = replicate 128 no_posting };
  partitions = record { used = 0; records = replicate 51 no_partition };
  taken = taken;
  merge = no_merge;
}
