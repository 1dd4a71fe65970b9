-- Refused means unchanged, for every call on a probe: state, card and register are as they were.
use Rattle.lists.proofs.Prelude.{List, refl, replicate}
use Rattle.answers.specs.declared.Hit.{Hit}
use Rattle.answers.specs.Unchanged.{Unchanged}
use Rattle.answers.proofs.Kept.{unchanged-carry}
use Rattle.state.specs.Probe.{Probe}
use Rattle.windows.proofs.Refused.{open-unchanged, close-unchanged}
use Rattle.events.proofs.Refused.{event-unchanged}
use Rattle.flushes.proofs.Refused.{flush-unchanged}
use Rattle.windows.specs.Calls.{open_of, close_of}
use Rattle.flushes.specs.Flush.{flush_of}
use Rattle.queries.specs.Query.{query_of}
use Rattle.queries.proofs.Refused.{query-unchanged}
use Rattle.means.specs.Mean.{mean_of}
use Rattle.means.proofs.Refused.{mean-unchanged}
use Rattle.forecasts.specs.Outlook.{forecast_of}
use Rattle.forecasts.proofs.Refused.{forecast-unchanged}
use Rattle.removals.specs.Removal.{remove_of}
use Rattle.removals.proofs.Refused.{removal-unchanged}
use Rattle.batches.specs.Batch.{remove_all_of}
use Rattle.batches.proofs.Refused.{batch-unchanged}
use Rattle.plans.specs.Step.{step_of}
use Rattle.merges.proofs.Refused.{step-unchanged}
use Rattle.engine.specs.Calls.{Call, Open, Event, Close, Remove, RemoveAll, Flush, Step, Query, Mean, Forecast, store_in, with_store, with_state, no_hit, probe_call}

pub call-unchanged : (p : Probe) (c : Call) → Unchanged p (probe_call p c)
unfolding probe_call
call-unchanged p Open = unchanged-carry (with_state p) p.state p (open_of p.state) refl (open-unchanged p.state)
call-unchanged p (Event n) = event-unchanged p n
call-unchanged p Close = unchanged-carry (with_state p) p.state p (close_of p.state) refl (close-unchanged p.state)
call-unchanged p (Remove w) = unchanged-carry (with_store p) (store_in p) p (remove_of (store_in p) w) refl (removal-unchanged (store_in p) w)
call-unchanged p (RemoveAll ws) = unchanged-carry (with_store p) (store_in p) p (remove_all_of (store_in p) ws) refl (batch-unchanged (store_in p) ws)
call-unchanged p Flush = unchanged-carry (with_store p) (store_in p) p (flush_of (store_in p)) refl (flush-unchanged (store_in p))
call-unchanged p Step = unchanged-carry (with_store p) (store_in p) p (step_of (store_in p)) refl (step-unchanged (store_in p))
call-unchanged p (Query k t ns) =
    unchanged-carry (λ (l : List Hit). p) (replicate k no_hit) p (query_of p t ns (replicate k no_hit)) refl (query-unchanged p t ns (replicate k no_hit))
call-unchanged p (Mean n) = unchanged-carry (λ (u : Unit {0}). p) tt p (mean_of p n) refl (mean-unchanged p n)
call-unchanged p (Forecast plan counts) =
    unchanged-carry (λ (u : Unit {0}). p) tt p (forecast_of p.state p.register plan counts) refl (forecast-unchanged p.state p.register plan counts)
