-- A forecast: what a plan's calls come to, as far as state and register tell.
use Rattle.std.specs.Prelude.{Result}
use Rattle.answers.specs.declared.Refusal.{Refusal}
use Rattle.std.specs.Prelude.{Bool, ◌&&◌, not, cond, List, [], ◌∷◌, ◌++◌, ◌≡◌, ℕ, suc, ◌-◌, ◌*◌, eqb, ltb, leb, pos, length}
use Rattle.lists.specs.Lists.{any, elem}
use Rattle.postings.specs.declared.Posting.{Posting}
use Rattle.postings.specs.Order.{same_pair}
use Rattle.postings.specs.Merge.{put}
use Rattle.answers.specs.Answers.{done, number, Outcome, choose, leave, answer_of}
use Rattle.answers.specs.Numbers.{forecast_as}
use Rattle.answers.specs.Order as order
use Rattle.answers.specs.Order.{until, past, admit}
use Rattle.answers.specs.declared.Forecast.{Forecast}
use Rattle.state.specs.declared.Lengths.{Lengths}
use Rattle.state.specs.declared.Partition.{Partition}
use Rattle.state.specs.declared.State.{State}
use Rattle.state.specs.Views.{blocks, register_size, listed, buffered, finished}
use Rattle.state.specs.Levels.{of_level}
use Rattle.state.specs.Rules.{state_rule}
use Rattle.state.specs.Probe.{has_length}
use Rattle.identifiers.specs.Names.{Name, bad_length, number_of}
use Rattle.identifiers.specs.Register.{names, register_rule}
use Rattle.recordings.specs.Recording.{recording_rule, recorded}
use Rattle.flushes.specs.Flush.{finished_blocks}
use Rattle.forecasts.specs.Plan.{Planned, opening, counting, closing, plan_calls}
use Rattle.forecasts.specs.Course.{Gauge, follow}

-- what a forecast goes by: the last number given, the open window with its events and identifiers, the register's identifiers by number, the buffered postings,
-- and of finished partitions how many stand at level 0 and how many blocks they have
pub record Outlook : Type 0 where
  pub last : ℕ
  pub current : ℕ
  pub events : ℕ
  pub names : List Name
  pub listed : List ℕ
  pub buffer : List Posting
  pub low : ℕ
  pub blocks : ℕ

-- as a state and a register have it
unfoldable pub outlook_of : State → List ℕ → Outlook
outlook_of s register = record {
  last = s.windows.last;
  current = s.windows.current;
  events = s.windows.events;
  names = names register;
  listed = listed s.listed;
  buffer = buffered s.buffer;
  low = of_level (λ (p : Partition). p.level) 0 (finished s.partitions);
  blocks = finished_blocks s;
}

-- what is told of it
abbrev pub outlook_gauge : Gauge Outlook
outlook_gauge = record { low = λ o. o.low; blocks = λ o. o.blocks; entries = λ o. length o.names }

-- ---- what a plan's calls leave

-- is a window open
abbrev pub is_open : Outlook → Bool
is_open o = not (eqb o.current 0)

-- the next number is given
unfoldable pub opened : Outlook → Outlook
opened o = record { last = suc o.last; current = suc o.last; events = 0; names = o.names; listed = o.listed; buffer = o.buffer; low = o.low; blocks = o.blocks }

-- no window is open, and one without events gives its number back
unfoldable pub closed : Outlook → Outlook
closed o = record {
  last = cond (eqb o.events 0) (o.last - 1) o.last;
  current = 0;
  events = 0;
  names = o.names;
  listed = [];
  buffer = o.buffer;
  low = o.low;
  blocks = o.blocks;
}

-- an identifier's number; is it new
abbrev pub number_in : Outlook → Name → ℕ
number_in o n = number_of o.names n

abbrev pub is_new : Outlook → Name → Bool
is_new o n = leb (length o.names) (number_in o n)

-- one count of an identifier in the open window
abbrev pub once : Outlook → Name → Posting
once o n = record { id = number_in o n; window = o.current; count = pos 1 }

-- the event is counted
unfoldable pub counted : Name → Outlook → Outlook
counted n o = record {
  last = o.last;
  current = o.current;
  events = suc o.events;
  names = cond (is_new o n) (o.names ++ (n ∷ [])) o.names;
  listed = cond (elem (number_in o n) o.listed) o.listed (o.listed ++ (number_in o n ∷ []));
  buffer = put (once o n) o.buffer;
  low = o.low;
  blocks = o.blocks;
}

-- an event flushes first where its pair is new to a buffer of 128
unfoldable pub overflows : Name → Outlook → Bool
overflows n o = eqb (length o.buffer) 128 && not (any (same_pair (once o n)) o.buffer)

-- a flush: one partition of level 0, which takes one block
unfoldable pub flushed : Outlook → Outlook
flushed o = record {
  last = o.last;
  current = o.current;
  events = o.events;
  names = o.names;
  listed = o.listed;
  buffer = [];
  low = suc o.low;
  blocks = suc o.blocks;
}

-- ---- what they come to, on a card of so many blocks and a register of so many entries

module _ (card entries : ℕ) where
  -- refusals of a flush: 10 with 16 partitions at level 0, 11 where twice (finished blocks + 1) exceeds the card's. No card is there to lack a free block
  abbrev pub flush_tests : Outlook → List Bool
  flush_tests o = leb 16 o.low ∷ ltb card (2 * suc o.blocks) ∷ []

  -- with a flush first where the test holds
  unfoldable pub flushing_if : Bool → Outlook → (Outlook → Outcome Outlook) → Outcome Outlook
  flushing_if t o k = choose t (admit (until 11 order.writing) (flush_tests o) (k (flushed o))) (k o)

  -- refusals 4 to 9 of an event
  abbrev pub event_tests : Outlook → Name → List Bool
  event_tests o n =
      bad_length n
      ∷ not (is_open o)
      ∷ leb 32767 o.events
      ∷ (is_new o n && leb entries (length o.names))
      ∷ (not (elem (number_in o n) o.listed) && leb 64 (length o.listed))
      ∷ []

  unfoldable pub planned : Outlook → Planned → Outcome Outlook
  planned o opening = admit (past 3 order.opening) (is_open o ∷ leb 65535 o.last ∷ []) (leave (number (suc o.last)) (opened o))
  planned o (counting n) =
      admit (past 3 order.event) (event_tests o n)
      (flushing_if (overflows n o) o (λ q. leave done (counted n q)))
  planned o closing = admit (past 3 order.closing) (not (is_open o) ∷ []) (leave done (closed o))

-- refusal 1 of the state, where it is known whether it is sound, 2 of the register's length, 3 of the register and of the plan
abbrev pub plan_tests : Bool → Lengths → List ℕ → List ℕ → List ℕ → List Bool
plan_tests sound l register plan counts = not sound ∷ not (has_length register l.register) ∷ not (register_rule register && recording_rule plan counts) ∷ []

-- the call: these tests, and then what the plan's calls come to
unfoldable pub forecast_of : State → List ℕ → List ℕ → List ℕ → Outcome (Unit {0})
forecast_of s register plan counts =
    admit order.forecast
    (plan_tests (state_rule s) s.lengths register plan counts)
    (leave (follow outlook_gauge (planned (blocks s) (register_size s)) 0 (outlook_of s register) (plan_calls (recorded plan counts))) tt)

-- what a forecast promises: nothing is lent to be written
abbrev pub Foretells : (s : State) (register plan counts : List ℕ) (r : Result Forecast Refusal) → Type 0
Foretells s register plan counts r = forecast_as r ≡ answer_of (forecast_of s register plan counts)
