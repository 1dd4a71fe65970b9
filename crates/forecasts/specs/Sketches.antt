-- What the code of a forecast keeps in place of an outlook, and what it goes on with.
use Rattle.std.specs.Prelude.{Option, Some, None, Result, Ok, Err, ⊤}
use Rattle.answers.specs.declared.Refusal.{Refusal}
use Rattle.std.specs.Prelude.{Bool, true, ◌&&◌, not, cond, List, [], ◌∷◌, ◌++◌, map, ◌≡◌, ℕ, suc, ◌+◌, ◌-◌, ◌*◌, ◌/◌, ◌<◌, ◌≤◌, eqb, ltb, length, get_or, take, drop}
use Rattle.lists.specs.Lists.{every, elem}
use Rattle.postings.specs.Merge.{put}
use Rattle.answers.specs.Answers.{Answer, halted, Outcome, refuse, leave, done}
use Rattle.answers.specs.Numbers.{refusal_number}
use Rattle.answers.specs.Order as order
use Rattle.answers.specs.Order.{past}
use Rattle.answers.specs.declared.Stop.{Stop}
use Rattle.state.specs.declared.State.{State}
use Rattle.state.specs.Views.{listed, buffered, listed_of, buffer_of}
use Rattle.state.specs.Rules.{buffer_rule}
use Rattle.buffer.specs.Places.{pair}
use Rattle.admission.specs.Admission.{first_of}
use Rattle.events.specs.Verdicts.{tests_among}
use Rattle.identifiers.specs.Names.{Name, bad_length, number_of}
use Rattle.identifiers.specs.Register.{entries, names, register_rule}
use Rattle.recordings.specs.Recording.{identifier_in}
use Rattle.forecasts.specs.Plan.{Placed, opening, counting, closing, event_calls}
use Rattle.forecasts.specs.Course.{told, follow}
use Rattle.forecasts.specs.Outlook.{Outlook, outlook_of, outlook_gauge, counted, overflows, flushing_if, planned}
use Rattle.forecasts.specs.declared.Sketch.{Sketch}

-- the identifier at a place of a plan
abbrev pub identifier_at : List ℕ → ℕ → Name
identifier_at plan a = identifier_in (get_or (entries plan) a [])

-- a place of the plan with an identifier of a good length
abbrev pub is_place : List ℕ → ℕ → Bool
is_place plan a = ltb a (length (entries plan)) && not (bad_length (identifier_at plan a))

-- the register's identifiers, and after them those of the plan that stand at the first k of these places
abbrev pub names_with : List ℕ → List ℕ → List ℕ → ℕ → List Name
names_with register plan places k = names register ++ map (identifier_at plan) (take k places)

-- the outlook that a sketch stands for
unfoldable pub outlook : List ℕ → List ℕ → List ℕ → Sketch → Outlook
outlook register plan places q = record {
  last = q.windows.last;
  current = q.windows.current;
  events = q.windows.events;
  names = names_with register plan places q.known;
  listed = listed q.listed;
  buffer = buffered q.buffer;
  low = q.low;
  blocks = q.blocks;
}

-- what holds of a sketch throughout: its lists keep their rules, the places are the plan's, and numbers have room to grow
pub record Sound (register plan places : List ℕ) (q : Sketch) : Type 0 where
  pub buffer : buffer_rule q.windows q.buffer ≡ true
  pub given : q.windows.current ≤ q.windows.last
  pub events : q.windows.events ≤ 32767
  pub listed_few : q.listed.used ≤ 64
  pub listed_form : length q.listed.ids ≡ 64 → q.listed ≡ listed_of (listed q.listed)
  pub known : length (names register) + q.known ≤ length register / 65
  pub room : length register / 65 ≤ length places
  pub in_plan : every (is_place plan) (take q.known places) ≡ true
  pub low : q.low ≤ 51
  pub flushes : q.flushes ≤ q.low
  pub blocks : q.blocks ≤ 219043332045

-- a register as it is lent to a forecast: it keeps its rule, and so many of its entries are used
pub record Lent (register : List ℕ) (used : ℕ) : Type 0 where
  pub rule : register_rule register ≡ true
  pub size : length register ≤ 66560
  pub count : used ≡ length (names register)

-- a sketch of a state, with no identifier of the plan met yet: whatever register, plan and places there are, it stands for the state's outlook, and is sound
pub record Begun (s : State) (q : Sketch) : Type 0 where
  pub stands : (register plan places : List ℕ) → outlook register plan places q ≡ outlook_of s register
  pub sound : (register plan places : List ℕ) → length (names register) ≤ length register / 65 → length register / 65 ≤ length places → Sound register plan places q
  pub flushes : q.flushes ≡ 0

-- ---- an event

-- after a flush
abbrev pub flushed_sketch : Sketch → Sketch
flushed_sketch q = record {
  windows = q.windows;
  listed = q.listed;
  buffer = buffer_of [];
  blocks = suc q.blocks;
  low = suc q.low;
  flushes = suc q.flushes;
  known = q.known;
}

-- with an event of identifier i counted, and so many identifiers of the plan new to the register
abbrev pub counted_sketch : Sketch → ℕ → ℕ → Sketch
counted_sketch q i k = record {
  windows = record { last = q.windows.last; live = q.windows.live; current = q.windows.current; events = suc q.windows.events };
  listed = listed_of (cond (elem i (listed q.listed)) (listed q.listed) (listed q.listed ++ (i ∷ [])));
  buffer = buffer_of (put (pair i q.windows.current) (buffered q.buffer));
  blocks = q.blocks;
  low = q.low;
  flushes = q.flushes;
  known = k;
}

-- an event of the identifier at a place that refusals 4 to 9 do not stop, and its number
pub record Enterable (register : List ℕ) (used : ℕ) (plan places : List ℕ) (q : Sketch) (at i : ℕ) : Type 0 where
  pub lent : Lent register used
  pub sound : Sound register plan places q
  pub inside : at < length (entries plan)
  pub fits : at < 4294967296
  pub free : 0 ≡ first_of (past 3 order.event) (tests_among q.windows q.listed (length register / 65) (names_with register plan places q.known) (identifier_at plan at))
  pub number : i ≡ number_of (names_with register plan places q.known) (identifier_at plan at)

module _ (card : ℕ) (register plan : List ℕ) where
  -- what an event of the identifier at a place comes to, on the outlook that a sketch stands for
  abbrev pub event_at : List ℕ → Sketch → ℕ → Outcome Outlook
  event_at places q at = planned card (length register / 65) (outlook register plan places q) (counting (identifier_at plan at))

  -- what is left where it is done: the sketch r with these places stands for it, a flush is counted where there was one, and the window has one event more
  pub record Done (places : List ℕ) (q : Sketch) (o : Outcome Outlook) (r : Sketch) (places' : List ℕ) : Type 0 where
    pub is : o ≡ leave done (outlook register plan places' r)
    pub sound : Sound register plan places' r
    pub flushes : r.flushes ≡ cond (ltb q.low r.low) (suc q.flushes) q.flushes
    pub events : r.windows.events ≡ suc q.windows.events
    pub last : r.windows.last ≡ q.windows.last
    pub current : r.windows.current ≡ q.windows.current

  -- an outcome, as it is told by an answer and what is left
  abbrev pub Made : List ℕ → Sketch → Outcome Outlook → Result ⊤ Refusal → Sketch → List ℕ → Type 0
  Made places q o (Err why) r places' = (o ≡ refuse (refusal_number why)) × (r ≡ q) × (places' ≡ places)
  Made places q o (Ok tt) r places' = Done places q o r places'

  -- an event
  abbrev pub Counted : List ℕ → Sketch → ℕ → Result ⊤ Refusal → Sketch → List ℕ → Type 0
  Counted places q at reply r places' = Made places q (event_at places q at) reply r places'

  -- the same past refusals 4 to 9: a flush where the pair finds no room, and then the count
  abbrev pub Entered : List ℕ → Sketch → ℕ → Result ⊤ Refusal → Sketch → List ℕ → Type 0
  Entered places q at reply r places' =
      Made places q
      (flushing_if card (length register / 65) (overflows (identifier_at plan at) (outlook register plan places q)) (outlook register plan places q)
      (λ o. leave done (counted (identifier_at plan at) o)))
      reply r places'

-- ---- what is told of a plan, from here on

module _ (card : ℕ) (register plan : List ℕ) where
  -- of the calls cs, with a sketch in hand
  abbrev pub ahead : List ℕ → Sketch → List Placed → Answer
  ahead places q cs = follow outlook_gauge (planned card (length register / 65)) q.flushes (outlook register plan places q) cs

  -- the same where the calls before these came to this: they were all done, or one was refused
  abbrev pub onward : List ℕ → Sketch → Option Stop → List Placed → Answer
  onward places q None cs = ahead places q cs
  onward places q (Some t) cs =
      told outlook_gauge (planned card (length register / 65)) q.flushes (outlook register plan places q) (halted t.window t.event (refusal_number t.why))

  -- calls that come to this: what is told from here on is what is told with the sketch and the places that they leave, and with the calls after them
  pub record Followed (places : List ℕ) (q : Sketch) (calls : List Placed → List Placed) (stop : Option Stop) (r : Sketch) (places' : List ℕ) (rest : List Placed → List Placed) : Type 0 where
    pub told : (cs : List Placed) → ahead places q (calls cs) ≡ onward places' r stop (rest cs)
    pub sound : Sound register plan places' r

-- something that holds unless the plan stops
abbrev pub Unless : Option Stop → Type 0 → Type 0
Unless None P = P
Unless (Some t) P = Unit {0}

-- the identifiers of the plan's places from a to before e
abbrev pub stretch : List ℕ → ℕ → ℕ → List Name
stretch plan a e = take (e - a) (drop a (map identifier_in (entries plan)))

-- ---- a window, and the whole plan

-- a window is opened
abbrev pub opened_sketch : Sketch → Sketch
opened_sketch q = record {
  windows = record { last = suc q.windows.last; live = q.windows.live; current = suc q.windows.last; events = 0 };
  listed = q.listed;
  buffer = q.buffer;
  blocks = q.blocks;
  low = q.low;
  flushes = q.flushes;
  known = q.known;
}

-- the open window is closed
abbrev pub closed_sketch : Sketch → Sketch
closed_sketch q = record {
  windows = record { last = cond (eqb q.windows.events 0) (q.windows.last - 1) q.windows.last; live = q.windows.live; current = 0; events = 0 };
  listed = listed_of [];
  buffer = q.buffer;
  blocks = q.blocks;
  low = q.low;
  flushes = q.flushes;
  known = q.known;
}

-- the calls of the w-th window, with the identifiers ns and the calls cs after it; and its close
abbrev pub opened_by : ℕ → List Name → List Placed → List Placed
opened_by w ns cs = record { window = w; event = 0; call = opening } ∷ (event_calls w 1 ns ++ cs)

abbrev pub closed_by : ℕ → ℕ → List Placed → List Placed
closed_by w j cs = record { window = w; event = j; call = closing } ∷ cs

-- what a window's events may rely on: it has just been opened, and all that the plan has counted before has room in the numbers given before
pub record Opened (register : List ℕ) (used : ℕ) (plan places : List ℕ) (q : Sketch) (from to : ℕ) : Type 0 where
  pub lent : Lent register used
  pub sound : Sound register plan places q
  pub run : from ≤ to
  pub inside : to ≤ length (entries plan)
  pub current : q.windows.current ≡ q.windows.last
  pub some : 1 ≤ q.windows.last
  pub most : q.windows.last ≤ 65535
  pub events : q.windows.events ≡ 0
  pub early : from + 32767 ≤ 32767 * q.windows.last

-- what they leave where none is refused
pub record Counting (q r : Sketch) (from to : ℕ) : Type 0 where
  pub last : r.windows.last ≡ q.windows.last
  pub current : r.windows.current ≡ q.windows.current
  pub events : from + r.windows.events ≡ to

-- all that the plan has counted up to a place has room in the numbers given: no window has more than 32,767 events
abbrev pub Early : Sketch → ℕ → Type 0
Early q to = to ≤ 32767 * q.windows.last

-- what a window of a plan may rely on
pub record Ready (register : List ℕ) (used : ℕ) (plan places : List ℕ) (q : Sketch) (from to : ℕ) : Type 0 where
  pub lent : Lent register used
  pub sound : Sound register plan places q
  pub run : from ≤ to
  pub inside : to ≤ length (entries plan)
  pub early : Early q from
