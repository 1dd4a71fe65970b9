-- The document's number or value for each case of an answer of the code.
use Rattle.std.specs.Prelude.{List, ℕ, take, Option, Some, None, Result, Ok, Err, ⊤}
use Rattle.answers.specs.declared.Refusal.{Refusal}
use Rattle.answers.specs.declared.Refusal.TheVariants.{BrokenState, WrongLength, Malformed, BadIdentifier, OutOfTurn, Exhausted, NotLive, RegisterFull, WindowFull, LevelFull, HalfFull, TooFewFree, NothingDue, BadQuery, Uncounted, BadList, BadStretch}
use Rattle.answers.specs.declared.Found.{Found}
use Rattle.answers.specs.declared.Mean.{Mean}
use Rattle.answers.specs.declared.Stop.{Stop}
use Rattle.answers.specs.declared.Forecast.{Forecast}
use Rattle.answers.specs.declared.Hit.{Hit}
use Rattle.answers.specs.Answers.{Halt, never, halted, Answer, done, number, hits, mean, forecast, refused}

-- "Refused, checked in this order": the number of each refusal
abbrev pub refusal_number : Refusal → ℕ
refusal_number BrokenState = 1
refusal_number WrongLength = 2
refusal_number Malformed = 3
refusal_number BadIdentifier = 4
refusal_number OutOfTurn = 5
refusal_number Exhausted = 6
refusal_number NotLive = 7
refusal_number RegisterFull = 8
refusal_number WindowFull = 9
refusal_number LevelFull = 10
refusal_number HalfFull = 11
refusal_number TooFewFree = 12
refusal_number NothingDue = 13
refusal_number BadQuery = 14
refusal_number Uncounted = 15
refusal_number BadList = 16
refusal_number BadStretch = 17

-- the answer of a call that gives no value
abbrev pub replied : Result ⊤ Refusal → Answer
replied (Ok x) = done
replied (Err r) = refused (refusal_number r)

-- the answer of an open: the window's number
abbrev pub opened_as : Result ℕ Refusal → Answer
opened_as (Ok n) = number n
opened_as (Err r) = refused (refusal_number r)

-- the answer of a query whose hits are the first of the list beside it
abbrev pub found_as : Result Found Refusal → List Hit → Answer
found_as (Ok f) hs = hits (take f.hits hs) f.taken
found_as (Err r) hs = refused (refusal_number r)

-- the answer of a mean
abbrev pub averaged_as : Result Mean Refusal → Answer
averaged_as (Ok m) = mean m.quotient m.remainder m.windows
averaged_as (Err r) = refused (refusal_number r)

-- where a plan stops
abbrev pub halt_as : Option Stop → Halt
halt_as None = never
halt_as (Some t) = halted t.window t.event (refusal_number t.why)

-- the answer of a forecast
abbrev pub forecast_as : Result Forecast Refusal → Answer
forecast_as (Ok f) = forecast f.flushes f.blocks f.entries (halt_as f.stop)
forecast_as (Err r) = refused (refusal_number r)
