-- The engine's calls in one place, and runs of them.
use Rattle.std.specs.Prelude.{List, [], ◌∷◌, length, replicate}
use Rattle.answers.specs.Answers.{Answer, Outcome, answer_of, state_of, carry}
pub use Rattle.answers.specs.Calls.{Call, Open, Event, Close, Remove, RemoveAll, Flush, Step, Query, Mean, Forecast}
use Rattle.answers.specs.declared.Hit.{Hit}
use Rattle.state.specs.declared.Partition.{Partition}
use Rattle.state.specs.declared.State.{State}
use Rattle.state.specs.Views.{finished}
use Rattle.state.specs.Levels.{of_level}
use Rattle.state.specs.Probe.{Store, Probe}
use Rattle.identifiers.specs.Register.{names}
use Rattle.windows.specs.Calls.{open_of, close_of}
use Rattle.events.specs.Event.{event_of}
use Rattle.flushes.specs.Flush.{finished_blocks, flush_of}
use Rattle.queries.specs.Query.{query_of}
pub use Rattle.ranking.specs.Top.{no_hit}
use Rattle.removals.specs.Removal.{remove_of}
use Rattle.batches.specs.Batch.{remove_all_of}
use Rattle.means.specs.Mean.{mean_of}
use Rattle.forecasts.specs.Plan.{Planned, opening, counting, closing}
use Rattle.forecasts.specs.Course.{Gauge}
use Rattle.forecasts.specs.Outlook.{forecast_of}
use Rattle.plans.specs.Step.{step_of}

-- the parts of a probe that a call is lent, and the probe with them put back
abbrev pub store_in : Probe → Store
store_in p = record { state = p.state; card = p.card }

abbrev pub with_store : Probe → Store → Probe
with_store p s = record { state = s.state; card = s.card; register = p.register }

abbrev pub with_state : Probe → State → Probe
with_state p s = record { state = s; card = p.card; register = p.register }

-- a call on a probe. Query, mean and forecast leave the probe as it is
unfoldable pub probe_call : Probe → Call → Outcome Probe
probe_call p Open = carry (with_state p) (open_of p.state)
probe_call p (Event n) = event_of p n
probe_call p Close = carry (with_state p) (close_of p.state)
probe_call p (Remove w) = carry (with_store p) (remove_of (store_in p) w)
probe_call p (RemoveAll ws) = carry (with_store p) (remove_all_of (store_in p) ws)
probe_call p Flush = carry (with_store p) (flush_of (store_in p))
probe_call p Step = carry (with_store p) (step_of (store_in p))
probe_call p (Query k t ns) = carry (λ (l : List Hit). p) (query_of p t ns (replicate k no_hit))
probe_call p (Mean n) = carry (λ (u : Unit {0}). p) (mean_of p n)
probe_call p (Forecast plan counts) = carry (λ (u : Unit {0}). p) (forecast_of p.state p.register plan counts)

-- a plan's call on a probe, and what a forecast reads off one
abbrev pub planned_call : Planned → Call
planned_call opening = Open
planned_call (counting n) = Event n
planned_call closing = Close

abbrev pub probe_gauge : Gauge Probe
probe_gauge = record {
  low = λ p. of_level (λ (x : Partition). x.level) 0 (finished p.state.partitions);
  blocks = λ p. finished_blocks p.state;
  entries = λ p. length (names p.register);
}

-- the answers to a list of calls, each made on what the one before left
unfoldable pub run : {S : Type 0} → (S → Call → Outcome S) → S → List Call → List Answer
run f s [] = []
run f s (c ∷ cs) = answer_of (f s c) ∷ run f (state_of s (f s c)) cs

-- what is there after a list of calls
unfoldable pub afterwards : {S : Type 0} → (S → Call → Outcome S) → S → List Call → S
afterwards f s [] = s
afterwards f s (c ∷ cs) = afterwards f (state_of s (f s c)) cs
