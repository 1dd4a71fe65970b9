-- Calls in a row that keep the promises of the public functions of crate engine, as their `ensures` says them.
use Rattle.std.specs.Prelude.{Result, ⊤}
use Rattle.answers.specs.declared.Refusal.{Refusal}
use Rattle.answers.specs.declared.Mean.{Mean as Averaged}
use Rattle.std.specs.Prelude.{List, [], ◌∷◌, ℕ, length}
use Rattle.postings.specs.declared.Stretch.{Stretch}
use Rattle.answers.specs.Answers.{Answer}
use Rattle.answers.specs.Numbers.{replied, opened_as, found_as, averaged_as, forecast_as}
use Rattle.answers.specs.declared.Found.{Found}
use Rattle.answers.specs.declared.Forecast.{Forecast}
use Rattle.answers.specs.declared.Hit.{Hit}
use Rattle.state.specs.declared.State.{State}
use Rattle.identifiers.specs.Names.{Name}
pub use Rattle.windows.specs.Promises.{Starts, Opens, Closes}
pub use Rattle.events.specs.Event.{Counts}
pub use Rattle.flushes.specs.Flush.{Flushes}
use Rattle.windows.specs.declared.After.{After}
pub use Rattle.queries.specs.Finds.{AsksValue}
use Rattle.queries.specs.declared.Answered.{Answered}
pub use Rattle.means.specs.Mean.{Averages}
pub use Rattle.forecasts.specs.Outlook.{Foretells}
pub use Rattle.removals.specs.Promises.{Removes}
pub use Rattle.batches.specs.Batch.{RemovesAll}
pub use Rattle.merges.specs.Promises.{Steps}
use Rattle.engine.specs.Calls as calls
use Rattle.engine.specs.Calls.{Call, Open, Event, Close, Remove, RemoveAll, Flush, Step, Query, Mean}
pub use Rattle.hits.specs.Lent.{Asks}

-- from this state, card and register on: the calls, each given what the one before left, and the answers of results that keep their promises
pub data Row : State → List ℕ → List ℕ → List Call → List Answer → Type 0 where
  no_call : {s : State} {card register : List ℕ} → Row s card register [] []
  opening : {s : State} {card register : List ℕ} {cs : List Call} {told : List Answer} (r : After ℕ)
      → Opens s r → Row r.state card register cs told → Row s card register (Open ∷ cs) (opened_as r.answer ∷ told)
  counting : {s : State} {card register : List ℕ} {cs : List Call} {told : List Answer} {id : Name} (r : After ⊤) {card' register' : List ℕ}
      → Counts s card register id r card' register' → Row r.state card' register' cs told → Row s card register (Event id ∷ cs) (replied r.answer ∷ told)
  closing : {s : State} {card register : List ℕ} {cs : List Call} {told : List Answer} (r : After ⊤)
      → Closes s r → Row r.state card register cs told → Row s card register (Close ∷ cs) (replied r.answer ∷ told)
  removing : {s : State} {card register : List ℕ} {cs : List Call} {told : List Answer} {window : ℕ} (r : After ⊤) {card' : List ℕ}
      → Removes s card window r card' → Row r.state card' register cs told → Row s card register (Remove window ∷ cs) (replied r.answer ∷ told)
  removing_all : {s : State} {card register : List ℕ} {cs : List Call} {told : List Answer} {windows : List ℕ} (r : After ⊤) {card' : List ℕ}
      → RemovesAll s card windows r card' → Row r.state card' register cs told → Row s card register (RemoveAll windows ∷ cs) (replied r.answer ∷ told)
  flushing : {s : State} {card register : List ℕ} {cs : List Call} {told : List Answer} (r : After ⊤) {card' : List ℕ}
      → Flushes s card r card' → Row r.state card' register cs told → Row s card register (Flush ∷ cs) (replied r.answer ∷ told)
  stepping : {s : State} {card register : List ℕ} {cs : List Call} {told : List Answer} (r : After ⊤) {card' : List ℕ}
      → Steps s card r card' → Row r.state card' register cs told → Row s card register (Step ∷ cs) (replied r.answer ∷ told)
  -- a query: a list of any content is lent, and has the hits at exit
  asking : {s : State} {card register : List ℕ} {cs : List Call} {told : List Answer} {stretch : Stretch} {ids : List Name} {hits : List Hit} (r : Result Found Refusal) {hits' : List Hit}
      → Asks s card register stretch ids hits r hits' → Row s card register cs told → Row s card register (Query (length hits) stretch ids ∷ cs) (found_as r hits' ∷ told)
  -- or so many places are asked for, and the hits are in the result
  asking_value : {s : State} {card register : List ℕ} {cs : List Call} {told : List Answer} {stretch : Stretch} {ids : List Name} {places : ℕ} (r : Answered)
      → AsksValue s card register stretch ids places r → Row s card register cs told → Row s card register (Query places stretch ids ∷ cs) (found_as r.answer r.top.hits ∷ told)
  -- a mean
  averaging : {s : State} {card register : List ℕ} {cs : List Call} {told : List Answer} {id : Name} (r : Result Averaged Refusal)
      → Averages s card register id r → Row s card register cs told → Row s card register (Mean id ∷ cs) (averaged_as r ∷ told)
  -- a forecast
  foretelling : {s : State} {card register : List ℕ} {cs : List Call} {told : List Answer} {plan counts : List ℕ} (r : Result Forecast Refusal)
      → Foretells s register plan counts r → Row s card register cs told → Row s card register (calls.Forecast plan counts ∷ cs) (forecast_as r ∷ told)

-- a start on these bytes, and calls in a row on what it leaves
pub record Begun (card register : List ℕ) (cs : List Call) (told : List Answer) : Type 0 where
  pub started : After ⊤
  pub card' : List ℕ
  pub register' : List ℕ
  pub promise : Starts card register started card' register'
  pub row : Row started.state card' register' cs told
