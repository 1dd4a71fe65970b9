-- A forecast on bytes is that on lists.
use Rattle.lists.proofs.Prelude.{true, ◌&&◌, not, List, ◌≡◌, sym, ap, ◌∙◌, subst, ℕ}
use Rattle.words.specs.Words.{words}
use Rattle.answers.specs.Answers.{Answer, leave, refuse_if}
use Rattle.state.specs.declared.Lengths.{Lengths}
use Rattle.state.specs.declared.State.{State}
use Rattle.state.specs.Views.{blocks, register_size}
use Rattle.state.specs.Probe.{Probe, has_length}
use Rattle.recordings.specs.Recording.{recording_rule, recorded}
use Rattle.forecasts.specs.Plan.{Placed, plan_calls}
use Rattle.forecasts.specs.Course.{follow}
use Rattle.forecasts.specs.Outlook.{Outlook, outlook_of, outlook_gauge, planned, forecast_of}
use Rattle.engine.specs.Calls.{Forecast, probe_call}
use Rattle.accounts.specs.Lists.{Lists, lists_gauge, planned_lists, pursued}
use Rattle.accounts.proofs.Foreseen.{outlook_in, outlook-forecast}
use Rattle.decoded.proofs.Holds.{Holds, Stored, buffer-is}
use Rattle.decoded.proofs.Ruled.{ruled, same_length}
use Rattle.decoded.proofs.Unused.{finished-is}
use Rattle.decoded.proofs.Flushing.{Same, both_leave, same-carry, refusing, passing, Fine, level-is}
use Rattle.decoded.proofs.WindowCalls.{no-first, listed-is}

module _ {ls : Lengths} (p : Probe) (e : Lists) (k : Stored ls p e) (fine : Fine (blocks p.state) e) where
  abbrev s : State
  s = p.state

  abbrev W : List ℕ
  W = words p.card

  abbrev h : Holds s W e
  h = k.holds

  -- the outlook is that of the lists
  outlook-is : outlook_of s p.register ≡ outlook_in e
  unfolding outlook_of
  outlook-is = λ i. record {
    last = (h.windows i).last;
    current = (h.windows i).current;
    events = (h.windows i).events;
    names = k.names i;
    listed = listed-is p e k fine i;
    buffer = buffer-is s W e h i;
    low = level-is s p.card e h fine 0 i;
    blocks = finished-is s W e h fine.parts i;
  }

  told_same : (cs : List Placed) → follow outlook_gauge (planned (blocks s) (register_size s)) 0 (outlook_of s p.register) cs ≡ follow lists_gauge (planned_lists (blocks s) (register_size s)) 0 e cs
  told_same cs = ap (λ (o : Outlook). follow outlook_gauge (planned (blocks s) (register_size s)) 0 o cs) outlook-is ∙ outlook-forecast (blocks s) (register_size s) cs e

  -- the register's length is that given at the start
  register-same : has_length p.register s.lengths.register ≡ true
  register-same = same_length p.register s.lengths.register k.register

  pub forecast-same : (plan counts : List ℕ) → Same (Stored ls) (probe_call p (Forecast plan counts)) (pursued (blocks s) (register_size s) e (Forecast plan counts))
  unfolding probe_call forecast_of pursued
  forecast-same plan counts =
      same-carry R (Stored ls) (λ (u : Unit {0}). p) (λ u e' r. r)
      (passing R _ 1 _ _ (no-first p e k fine)
      (passing R _ 2 _ _ (ap not register-same)
      (refusing R _ _ 3 _ _ (ap (λ t. not (t && recording_rule plan counts)) k.rule) λ _.
      subst (λ (x : Answer). Same R (leave x tt) (leave (follow lists_gauge (planned_lists (blocks s) (register_size s)) 0 e cs) e)) (sym (told_same cs)) (both_leave k))))
    where
      R : Unit {0} → Lists → Type 0
      R u e' = Stored ls p e'

      cs : List Placed
      cs = plan_calls (recorded plan counts)

  -- of a plan that keeps its rule
  pub forecast-is : (plan counts : List ℕ) → recording_rule plan counts ≡ true
      → probe_call p (Forecast plan counts) ≡ leave (follow lists_gauge (planned_lists (blocks s) (register_size s)) 0 e (plan_calls (recorded plan counts))) p
  unfolding probe_call forecast_of refuse_if
  forecast-is plan counts rule =
      rw (ruled s W e h fine.rule, register-same, k.rule, rule) (ap (λ (x : Answer). leave x p) (told_same (plan_calls (recorded plan counts))))
