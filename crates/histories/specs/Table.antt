-- "Counted by hand": the worked cases as one table, with what the document tells of each, and what it means that a case holds.
use Rattle.std.specs.Prelude.{Bool, true, false, List, [], ◌∷◌, ◌++◌, map, reverse, ◌≡◌, ℕ, zero, suc, ◌-◌, ◌*◌, ◌/◌, take, length, replicate}
use Rattle.lists.specs.Lists.{joined}
use Rattle.weights.specs.Weights.{tf_weight, idf_weight}
use Rattle.postings.specs.declared.Stretch.{Stretch}
use Rattle.answers.specs.Answers.{halted, Answer, done, number, hits, mean, forecast, refused}
use Rattle.answers.specs.declared.Hit.{Hit}
use Rattle.identifiers.specs.Names.{Name, bad_length, number_of}
use Rattle.identifiers.specs.Register.{names, register_rule, added}
use Rattle.stretches.specs.Reached.{whole}
use Rattle.engine.specs.Calls.{Call, Open, Event, Close, Remove, RemoveAll, Flush, Step, Query, Mean, Forecast}
use Rattle.accounts.specs.Books.{expected}
use Rattle.histories.specs.Statement.{answers}

-- a window with its score
abbrev pub hit : ℕ → ℕ → Hit
hit w s = record { window = w; score = s }

-- the document's identifiers
abbrev pub LUCKY : Name
LUCKY = 76 ∷ 85 ∷ 67 ∷ 75 ∷ 89 ∷ []

abbrev pub TILT : Name
TILT = 84 ∷ 73 ∷ 76 ∷ 84 ∷ []

abbrev pub DOOR : Name
DOOR = 68 ∷ 79 ∷ 79 ∷ 82 ∷ []

-- so many bytes A; and sixteen of them with B or C behind
abbrev pub As : ℕ → Name
As n = replicate n 65

abbrev pub AsB : Name
AsB = As 16 ++ (66 ∷ [])

abbrev pub AsC : Name
AsC = As 16 ++ (67 ∷ [])

-- the same calls so many times
abbrev pub times : ℕ → List Call → List Call
times zero cs = []
times (suc n) cs = cs ++ times n cs

-- three windows one after another, each closed: three of LUCKY and one of TILT; one of LUCKY; one of TILT and one of DOOR
abbrev pub three : List Call
three =
    Open ∷ Event LUCKY ∷ Event LUCKY ∷ Event LUCKY ∷ Event TILT ∷ Close
    ∷ Open ∷ Event LUCKY ∷ Close
    ∷ Open ∷ Event TILT ∷ Event DOOR ∷ Close ∷ []

-- two windows, closed: one of TILT, one of DOOR
abbrev pub two_closed : List Call
two_closed = Open ∷ Event TILT ∷ Close ∷ Open ∷ Event DOOR ∷ Close ∷ []

-- a query for LUCKY and TILT
abbrev pub asked : Call
asked = Query 32 whole (LUCKY ∷ TILT ∷ [])

-- the same of a stretch
abbrev pub from : ℕ → ℕ → Stretch
from a b = record { first = a; last = b }

abbrev pub between : ℕ → ℕ → Call
between a b = Query 32 (from a b) (LUCKY ∷ TILT ∷ [])

-- the entries of a plan's identifiers
abbrev pub plan_of : List Name → List ℕ
plan_of ns = joined (map (λ (n : Name). length n ∷ (n ++ replicate (64 - length n) 0)) ns)

-- an empty register of three entries, to which identifiers are added in turn
abbrev pub with_names : List ℕ → List Name → List ℕ
with_names r [] = r
with_names r (n ∷ ns) = with_names (added r n) ns

abbrev pub register_of : List Name → List ℕ
register_of ns = with_names (replicate 195 0) ns

-- a worked case, and what is told of it
pub data Case : Type 0 where
  -- a count, and its weight
  Tf : ℕ → ℕ → Case
  -- N and F, and their weight
  Idf : ℕ → ℕ → ℕ → Case
  -- how many bytes an identifier has, and whether that is refused with 4
  Sized : ℕ → Bool → Case
  -- identifiers added to a register, and whether it is well formed then
  Registered : List Name → Bool → Case
  -- identifiers added to a register, and the number that an identifier has in it
  Numbered : List Name → Name → ℕ → Case
  -- a history on a fresh card of so many blocks, and the last of its answers
  History : ℕ → List Call → List Answer → Case

-- the last answers, as many as are told
abbrev pub latest : List Answer → List Answer → List Answer
latest told all = reverse (take (length told) (reverse all))

-- the answers to a history on a card of so many blocks with a register of 64 entries: those of ledger and account, and the engine's from fresh bytes
unfoldable pub on_books : ℕ → List Call → List Answer
on_books n cs = expected ((4096 * n) / 4096) 64 cs

unfoldable pub on_bytes : ℕ → List Call → List Answer
on_bytes n cs = answers (4096 * n) 4160 cs

-- a case with what the definitions give in the place of what is told, where histories are answered so
unfoldable pub worked : (ℕ → List Call → List Answer) → Case → Case
worked answered (Tf f a) = Tf f (tf_weight f)
worked answered (Idf n f b) = Idf n f (idf_weight n f)
worked answered (Sized n bad) = Sized n (bad_length (As n))
worked answered (Registered ns formed) = Registered ns (register_rule (register_of ns))
worked answered (Numbered ns n i) = Numbered ns n (number_of (names (register_of ns)) n)
worked answered (History n cs told) = History n cs (latest told (answered n cs))

-- the cases, those that the document marks P first
unfoldable pub table : List Case
table =
    -- the weights of counts
    Tf 1 16 ∷ Tf 2 25 ∷ Tf 3 32 ∷ Tf 7 48 ∷ Tf 32767 240
    -- the weights of N and F; 5 and 3 weigh 37 - 25, where the logarithm of 5/3 would be 11; none where F is 0 or exceeds N
    ∷ Idf 8 1 48 ∷ Idf 3 2 9 ∷ Idf 5 3 12 ∷ Idf 3 3 0 ∷ Idf 65535 1 255 ∷ Idf 5 0 0 ∷ Idf 3 4 0
    -- 64 bytes accepted, 65 refused with 4, and so is an empty identifier; in a history, too
    ∷ Sized 64 false ∷ Sized 65 true ∷ Sized 0 true
    ∷ History 4 (Open ∷ Event (As 64) ∷ Event (As 65) ∷ Event [] ∷ []) (number 1 ∷ done ∷ refused 4 ∷ refused 4 ∷ [])
    -- identifiers that agree in 16 bytes and differ in the 17th have a number each, and those 16 bytes alone would have another
    ∷ Registered (AsB ∷ AsC ∷ []) true ∷ Numbered (AsB ∷ AsC ∷ []) AsB 0 ∷ Numbered (AsB ∷ AsC ∷ []) AsC 1 ∷ Numbered (AsB ∷ AsC ∷ []) (As 16) 2
    -- so each is worked, found and taken up apart from the other
    ∷ History 4 (Open ∷ Event AsB ∷ Event AsB ∷ Close ∷ Open ∷ Event AsC ∷ Close ∷ Query 32 whole (AsB ∷ []) ∷ Query 32 whole (AsC ∷ []) ∷ Query 32 whole (As 16 ∷ []) ∷ [])
    (hits (hit 1 400 ∷ []) 1 ∷ hits (hit 2 256 ∷ []) 1 ∷ hits [] 0 ∷ [])
    -- the query gives 1 (432), 3 (144), 2 (144), with 4 postings taken: counts of 3 and 1 weigh 32 and 16, and two of N = 3 windows 9
    ∷ History 4 (three ++ (asked ∷ [])) (hits (hit 1 432 ∷ hit 3 144 ∷ hit 2 144 ∷ []) 4 ∷ [])
    -- window 1 removed while all is buffered: its postings are gone from the buffer
    ∷ History 4 (three ++ (Remove 1 ∷ asked ∷ [])) (done ∷ hits (hit 3 256 ∷ hit 2 256 ∷ []) 2 ∷ [])
    -- flushed and then removed: its postings are on the card and their negation is buffered, and the hits do not change
    ∷ History 4 (three ++ (Flush ∷ Remove 1 ∷ asked ∷ [])) (done ∷ done ∷ hits (hit 3 256 ∷ hit 2 256 ∷ []) 6 ∷ [])
    -- DOOR worked 2 before a flush and 1 after, in one window: count 3, which weighs 32, and F adds 1, which of N = 2 weighs 16
    ∷ History 4 (Open ∷ Event TILT ∷ Close ∷ Open ∷ Event DOOR ∷ Event DOOR ∷ Flush ∷ Event DOOR ∷ Close ∷ Query 32 whole (DOOR ∷ []) ∷ []) (hits (hit 2 512 ∷ []) 2 ∷ [])
    -- on the smallest card two partitions are half of it
    ∷ History 4 (Open ∷ Event DOOR ∷ Flush ∷ Event DOOR ∷ Flush ∷ Event DOOR ∷ Flush ∷ []) (done ∷ done ∷ done ∷ done ∷ done ∷ refused 11 ∷ [])
    -- eight flushes of one pair make a merge of one step; then none is due, and one posting of count 8 is left, which weighs 50
    ∷ History 64 (Open ∷ times 8 (Event DOOR ∷ Flush ∷ []) ++ (Step ∷ Step ∷ Close ∷ Open ∷ Event TILT ∷ Close ∷ Query 3 whole (DOOR ∷ []) ∷ []))
    (done ∷ refused 13 ∷ done ∷ number 2 ∷ done ∷ done ∷ hits (hit 1 800 ∷ []) 1 ∷ [])
    -- window 3 is under way: TILT is in one of N = 2 windows, which weighs 16, though a posting of window 3 is taken. Once it is closed, TILT is in two of N = 3, which weighs 9
    ∷ History 4 (two_closed ++ (Open ∷ Event TILT ∷ Query 32 whole (TILT ∷ []) ∷ Close ∷ Query 32 whole (TILT ∷ []) ∷ []))
    (hits (hit 1 256 ∷ []) 2 ∷ done ∷ hits (hit 3 144 ∷ hit 1 144 ∷ []) 2 ∷ [])
    -- the same where its counts came to the card in eight partitions, which are merged into one: 8 of TILT weigh 50
    ∷ History 64 (two_closed ++ (Open ∷ times 8 (Event TILT ∷ Flush ∷ []) ++ (Step ∷ Query 32 whole (TILT ∷ []) ∷ Close ∷ Query 32 whole (TILT ∷ []) ∷ [])))
    (done ∷ hits (hit 1 256 ∷ []) 2 ∷ done ∷ hits (hit 3 450 ∷ hit 1 144 ∷ []) 2 ∷ [])
    -- 8 of DOOR weigh 50 and 7 weigh 48: the window with more of them stands first, though the other has the higher number
    ∷ History 4 (Open ∷ times 8 (Event DOOR ∷ []) ++ (Close ∷ Open ∷ times 7 (Event DOOR ∷ []) ++ (Close ∷ Open ∷ Event TILT ∷ Close ∷ Query 32 whole (DOOR ∷ []) ∷ [])))
    (hits (hit 1 450 ∷ hit 2 432 ∷ []) 2 ∷ [])
    -- means: 3 and 1 of LUCKY are 2 in each of two windows; window 4, under way, adds its 1 with its close, and 5 in three windows are 1 with 2 left over. Without
    -- window 1 the mean is 1. DOOR, whose only window is removed, and an identifier never counted are refused with 15, and an empty one with 4
    ∷ History 4 (three ++ (Flush ∷ Open ∷ Event LUCKY ∷ Mean LUCKY ∷ Close ∷ Mean LUCKY ∷ Remove 1 ∷ Mean LUCKY ∷ Remove 3 ∷ Mean DOOR ∷ Mean (As 16) ∷ Mean [] ∷ []))
    (mean 2 0 2 ∷ done ∷ mean 1 2 3 ∷ done ∷ mean 1 0 2 ∷ done ∷ refused 15 ∷ refused 15 ∷ refused 4 ∷ [])
    -- windows removed together: no window, or one named twice, is refused with 16; window 9, never given, with 7 though window 1 stands before it, and window 4, under way,
    -- with 5; each time nothing moves. 3 and 1 go together, and LUCKY is in window 2 alone, the only one, which weighs 0
    ∷ History 4 (three ++ (RemoveAll [] ∷ RemoveAll (1 ∷ 2 ∷ 1 ∷ []) ∷ RemoveAll (1 ∷ 9 ∷ []) ∷ asked ∷ Open ∷ Event DOOR ∷ RemoveAll (1 ∷ 4 ∷ []) ∷ asked ∷ RemoveAll (3 ∷ 1 ∷ []) ∷ asked ∷ []))
    (refused 16 ∷ refused 16 ∷ refused 7 ∷ hits (hit 1 432 ∷ hit 3 144 ∷ hit 2 144 ∷ []) 4 ∷ number 4 ∷ done ∷ refused 5 ∷ hits (hit 1 432 ∷ hit 3 144 ∷ hit 2 144 ∷ []) 4 ∷ done ∷ hits (hit 2 0 ∷ []) 1 ∷ [])
    -- forecasts, with one partition on the card and three identifiers counted: a window with LUCKY and a new identifier, one without events, and one whose second event has no
    -- identifier, at which the plan stops with 4. A list that does not add up is refused with 3. While a window is open, a plan stops at its first open with 5
    ∷ History 4 (three ++ (Flush ∷ Forecast (plan_of (LUCKY ∷ AsB ∷ DOOR ∷ [] ∷ AsC ∷ [])) (2 ∷ 0 ∷ 3 ∷ []) ∷ Forecast (plan_of (LUCKY ∷ [])) (2 ∷ []) ∷ Open ∷ Forecast (plan_of (LUCKY ∷ [])) (1 ∷ []) ∷ []))
    (forecast 0 1 4 (halted 3 2 4) ∷ refused 3 ∷ number 4 ∷ forecast 0 1 3 (halted 1 0 5) ∷ [])
    -- stretches, where windows 1 and 2 lie in one partition, window 3 in the next, and window 4, under way, in the buffer, whose posting is always taken. From 2 to 3 N is 2, and LUCKY and TILT are in one
    -- window each; both partitions are taken. From 3 to 3 the first is passed over, and N is 1, which weighs 0; from 1 to 2 the second is. From 0 to 0 no window lies, and from 3 to 2 the query is
    -- refused with 17, but with 14 where no identifier is named
    ∷ History 8 (Open ∷ Event LUCKY ∷ Event LUCKY ∷ Event LUCKY ∷ Event TILT ∷ Close ∷ Open ∷ Event LUCKY ∷ Close ∷ Flush ∷ Open ∷ Event TILT ∷ Event DOOR ∷ Close ∷ Flush ∷ Open ∷ Event TILT
    ∷ between 2 3 ∷ between 3 3 ∷ between 1 2 ∷ between 0 0 ∷ between 3 2 ∷ Query 32 (from 3 2) [] ∷ [])
    (hits (hit 3 256 ∷ hit 2 256 ∷ []) 5 ∷ hits (hit 3 0 ∷ []) 2 ∷ hits (hit 1 256 ∷ hit 2 0 ∷ []) 4 ∷ hits [] 1 ∷ refused 17 ∷ refused 14 ∷ [])
    -- the command program's example
    ∷ History 16 (Open ∷ Event LUCKY ∷ Event LUCKY ∷ Event LUCKY ∷ Event TILT ∷ Close ∷ Open ∷ Event LUCKY ∷ Close ∷ Query 2 whole (LUCKY ∷ TILT ∷ []) ∷ [])
    (number 1 ∷ done ∷ done ∷ done ∷ done ∷ done ∷ number 2 ∷ done ∷ done ∷ hits (hit 1 256 ∷ hit 2 0 ∷ []) 3 ∷ [])
    ∷ []

-- the table holds: in every case the definitions give what is told
unfoldable pub TableHolds : (ℕ → List Call → List Answer) → Type 0
TableHolds answered = map (worked answered) table ≡ table
