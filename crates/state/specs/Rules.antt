-- Refusal 1: the rules of "What the probe remembers", one definition a rule. What the width of a field says already (a window number is at
-- most 65,535) is not said again.
use Rattle.std.specs.Prelude.{Bool, true, ◌||◌, ◌&&◌, not, cond, List, [], ◌∷◌, ℕ, ◌*◌, ◌/◌, ◌%◌, eqb, ltb, leb, nat_abs, drop}
use Rattle.lists.specs.Lists.{every, empty, different}
use Rattle.postings.specs.declared.Posting.{Posting}
use Rattle.postings.specs.Order.{ordered}
use Rattle.postings.specs.Merge.{is_zero}
use Rattle.postings.specs.Sums.{above}
use Rattle.state.specs.declared.Lengths.{Lengths}
use Rattle.state.specs.declared.Windows.{Windows}
use Rattle.state.specs.declared.Listed.{Listed}
use Rattle.state.specs.declared.Buffer.{Buffer}
use Rattle.state.specs.declared.Partition.{Partition}
use Rattle.state.specs.declared.Partitions.{Partitions}
use Rattle.state.specs.declared.MergeJob.{MergeJob}
use Rattle.state.specs.declared.State.{State}
use Rattle.state.specs.Views.{blocks, listed, buffered, finished}
use Rattle.state.specs.Levels.{level_limit, levels, of_level, due_levels}

-- a card is of whole blocks, at least 4 and at most 4,096 of them
abbrev pub card_length : ℕ → Bool
card_length n = eqb (n % 4096) 0 && (leb 4 (n / 4096) && leb (n / 4096) 4096)

-- a register has 1 to 1,024 entries of 65 bytes
abbrev pub register_length : ℕ → Bool
register_length n = eqb (n % 65) 0 && (leb 1 (n / 65) && leb (n / 65) 1024)

-- both lengths are within the limits
unfoldable pub lengths_rule : Lengths → Bool
lengths_rule l = card_length l.card && register_length l.register

-- N, the closed windows that are live, is at most the last number given. An open window has that number, no more than 32,767 events, and is not one of N, which is
-- below it. Where none is open there are no events
unfoldable pub windows_rule : Windows → Bool
windows_rule w =
    leb w.live w.last
    && cond (eqb w.current 0) (eqb w.events 0)
    (eqb w.current w.last && (leb w.events 32767 && ltb w.live w.current))

-- the open window has at most 64 identifiers, all different and at most 1,023; zeros follow them; without an open window there are none
unfoldable pub listed_rule : Windows → Listed → Bool
listed_rule w l =
    leb l.used 64
    && (every (λ i. leb i 1023) (listed l)
    && (different (listed l)
    && (every (λ i. eqb i 0) (drop l.used l.ids) && (not (eqb w.current 0) || eqb l.used 0))))

-- a buffered posting: identifier at most 1,023, window from 1 to the last number given, a count that is not 0 and lies within ±32,767; a
-- count of the open window lies between 1 and its event count
unfoldable pub posting_rule : Windows → Posting → Bool
posting_rule w p =
    leb p.id 1023
    && (leb 1 p.window
    && (leb p.window w.last
    && (not (is_zero p.count)
    && (leb (nat_abs p.count) 32767
    && (not (eqb p.window w.current) || (leb 1 (above p.count) && leb (above p.count) w.events))))))

-- a place of the buffer that is not used
abbrev pub unused_posting : Posting → Bool
unused_posting p = eqb p.id 0 && (eqb p.window 0 && is_zero p.count)

-- at most 128 buffered postings, by identifier ascending and window descending, each pair one time; zeros follow them
unfoldable pub buffer_rule : Windows → Buffer → Bool
buffer_rule w b =
    leb b.used 128
    && (ordered (buffered b) && (every (posting_rule w) (buffered b) && every unused_posting (drop b.used b.postings)))

-- a finished partition's level is at most 5, its length lies within the card's content, and its lowest window is at least 1 and at most its highest
unfoldable pub record_rule : ℕ → Partition → Bool
record_rule block_count p =
    leb p.level 5 && (leb p.length (4092 * block_count) && (leb 1 p.lowest && leb p.lowest p.highest))

-- a place of the list of partitions that is not used
abbrev pub unused_record : Partition → Bool
unused_record p = eqb p.first 0 && (eqb p.level 0 && (eqb p.length 0 && (eqb p.lowest 0 && eqb p.highest 0)))

-- no partition has a higher level than one before it
abbrev pub never_rise : List Partition → Bool
never_rise [] = true
never_rise (p ∷ ps) = every (λ q. leb q.level p.level) ps && never_rise ps

-- no level has more partitions than its limit (51 in all), no level is above the one before it, and the places past the last are zeros
unfoldable pub partitions_rule : ℕ → Partitions → Bool
partitions_rule block_count p =
    leb p.used 51
    && (every (record_rule block_count) (finished p)
    && (never_rise (finished p)
    && (every (λ v. leb (of_level (λ q. q.level) v (finished p)) (level_limit v)) levels
    && every unused_record (drop p.used p.records))))

-- a merge in progress has at least 1 step done, and then a level is due; else its record is zeros
unfoldable pub merge_rule : Partitions → MergeJob → Bool
merge_rule p m = cond (eqb m.steps 0) (eqb m.first 0 && eqb m.length 0) (not (empty (due_levels (λ q. q.level) (finished p))))

-- the state keeps every rule: what is not so is refused with 1 in every call
unfoldable pub state_rule : State → Bool
state_rule s =
    lengths_rule s.lengths
    && (windows_rule s.windows
    && (listed_rule s.windows s.listed
    && (buffer_rule s.windows s.buffer
    && (partitions_rule (blocks s) s.partitions && (ltb s.taken (blocks s) && merge_rule s.partitions s.merge)))))
