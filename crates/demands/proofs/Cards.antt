-- From a start on a card's bytes are those of its words, since a call writes words. So a word of all ones is four bytes 255.
use Rattle.lists.proofs.Prelude.{Bool, List, [], ◌∷◌, ◌≡◌, sym, ap, ◌∙◌, subst, ℕ, zero, suc, ◌/◌, ◌%◌, arith, get_or, replicate, length-replicate}
use Rattle.words.specs.Words.{words, bytes, all_ones, Below}
use Rattle.words.proofs.Views.{words-bytes, bytes-words}
use Rattle.answers.specs.Answers.{Outcome, refuse_if, choose, state_of, carry}
use Rattle.answers.proofs.Kept.{after-if, after-choose, after_turn}
use Rattle.answers.specs.declared.Hit.{Hit}
use Rattle.state.specs.declared.State.{State}
use Rattle.state.specs.Probe.{Store, Probe}
use Rattle.identifiers.specs.Names.{Name}
use Rattle.flushes.specs.Flush.{flushing, flushing_if, flush_of}
use Rattle.windows.specs.Calls.{fresh, open_of, close_of}
use Rattle.events.specs.Event.{event_of}
use Rattle.queries.specs.Query.{query_of}
use Rattle.means.specs.Mean.{mean_of}
use Rattle.forecasts.specs.Outlook.{forecast_of}
use Rattle.removals.specs.Removal.{removing, remove_of}
use Rattle.batches.specs.Batch.{remove_all_of}
use Rattle.plans.specs.Step.{stepping, step_of}
use Rattle.engine.specs.Calls.{Call, Open, Event, Close, Remove, RemoveAll, Flush, Step, Query, Mean, Forecast, store_in, with_store, with_state, no_hit, probe_call, afterwards}
use Rattle.demands.proofs.Rows.{state-carry}

-- the bytes of its words are the card
abbrev Whole : List ℕ → Type 0
Whole card = bytes (words card) ≡ card

whole-bytes : (W : List ℕ) → Whole (bytes W)
whole-bytes W = ap bytes (words-bytes W)

-- ---- outcomes

module _ {S : Type 0} (f : S → List ℕ) (s : S) (here : Whole (f s)) where
  pass : (t : Bool) (n : ℕ) (o : Outcome S) → Whole (f (state_of s o)) → Whole (f (state_of s (refuse_if t n o)))
  pass t n o h = after-if (λ (q : S). Whole (f q)) s here t n o (λ _. h)

  either : (t : Bool) (o p : Outcome S) → Whole (f (state_of s o)) → Whole (f (state_of s p)) → Whole (f (state_of s (choose t o p)))
  either t o p h k = after-choose (λ (q : S). Whole (f q)) s t o p (λ _. h) (λ _. k)

  -- what follows a flush
  module _ (t : State) (card : List ℕ) (w : Whole card) (k : State → List ℕ → Outcome S) (h : (u : State) (c : List ℕ) → Whole c → Whole (f (state_of s (k u c)))) where
    flush-whole : Whole (f (state_of s (flushing t card k)))
    unfolding flushing
    flush-whole = either _ _ _ (h t card w) (pass _ 10 _ (pass _ 11 _ (pass _ 12 _ (h _ _ (whole-bytes _)))))

    flush-if-whole : (b : Bool) → Whole (f (state_of s (flushing_if b t card k)))
    unfolding flushing_if
    flush-if-whole b = either b _ _ flush-whole (h t card w)

-- ---- calls

abbrev of_probe : Probe → List ℕ
of_probe p = p.card

abbrev of_store : Store → List ℕ
of_store p = p.card

event-whole : (p : Probe) (n : Name) → Whole p.card → Whole (state_of p (event_of p n)).card
unfolding event_of
event-whole p n w =
    pass of_probe p w _ 1 _ (pass of_probe p w _ 2 _ (pass of_probe p w _ 3 _ (pass of_probe p w _ 4 _
    (pass of_probe p w _ 5 _ (pass of_probe p w _ 6 _ (pass of_probe p w _ 8 _ (pass of_probe p w _ 9 _
    (flush-if-whole of_probe p w p.state p.card w _ (λ u c x. x) _))))))))

module _ (p : Store) (w : Whole p.card) where
  flushed-whole : Whole (state_of p (flush_of p)).card
  unfolding flush_of
  flushed-whole = pass of_store p w _ 1 _ (pass of_store p w _ 2 _ (flush-whole of_store p w p.state p.card w _ (λ u c x. x)))

  removed-whole : (n : ℕ) → Whole (state_of p (remove_of p n)).card
  unfolding remove_of removing
  removed-whole n =
      pass of_store p w _ 1 _ (pass of_store p w _ 2 _ (pass of_store p w _ 3 _ (pass of_store p w _ 5 _ (pass of_store p w _ 7 _
      (flush-if-whole of_store p w p.state p.card w _ (λ u c x. x) _)))))

  stepped-whole : Whole (state_of p (step_of p)).card
  unfolding step_of stepping
  stepped-whole =
      pass of_store p w _ 1 _ (pass of_store p w _ 2 _ (pass of_store p w _ 3 _ (pass of_store p w _ 12 _ (pass of_store p w _ 13 _ (whole-bytes _)))))

removed-all-whole : (p : Store) → Whole p.card → (ns : List ℕ) → Whole (state_of p (remove_all_of p ns)).card
unfolding remove_all_of
removed-all-whole p w ns =
    pass of_store p w _ 1 _ (pass of_store p w _ 2 _ (pass of_store p w _ 3 _ (pass of_store p w _ 16 _
    (after_turn (λ (q : Store). Whole q.card) remove_of (λ t n x. removed-whole t x n) p w p w ns))))

-- seen on the whole probe
carried : {S : Type 0} (g : S → Probe) (s : S) (o : Outcome S) → Whole (g (state_of s o)).card → Whole (state_of (g s) (carry g o)).card
carried g s o h = subst (λ (q : Probe). Whole q.card) (sym (state-carry g s o)) h

call-whole : (p : Probe) → Whole p.card → (c : Call) → Whole (state_of p (probe_call p c)).card
unfolding probe_call
call-whole p w Open = carried (with_state p) p.state (open_of p.state) w
call-whole p w (Event n) = event-whole p n w
call-whole p w Close = carried (with_state p) p.state (close_of p.state) w
call-whole p w (Remove n) = carried (with_store p) (store_in p) (remove_of (store_in p) n) (removed-whole (store_in p) w n)
call-whole p w (RemoveAll ns) = carried (with_store p) (store_in p) (remove_all_of (store_in p) ns) (removed-all-whole (store_in p) w ns)
call-whole p w Flush = carried (with_store p) (store_in p) (flush_of (store_in p)) (flushed-whole (store_in p) w)
call-whole p w Step = carried (with_store p) (store_in p) (step_of (store_in p)) (stepped-whole (store_in p) w)
call-whole p w (Query k t ns) = carried (λ (l : List Hit). p) (replicate k no_hit) (query_of p t ns (replicate k no_hit)) w
call-whole p w (Mean n) = carried (λ (u : Unit {0}). p) tt (mean_of p n) w
call-whole p w (Forecast plan counts) = carried (λ (u : Unit {0}). p) tt (forecast_of p.state p.register plan counts) w

after-whole : (p : Probe) → Whole p.card → (cs : List Call) → Whole (afterwards probe_call p cs).card
unfolding afterwards
after-whole p w [] = w
after-whole p w (c ∷ cs) = after-whole (state_of p (probe_call p c)) (call-whole p w c) cs

-- ---- from a fresh card

below-255 : (n : ℕ) → Below 256 (replicate n 255)
below-255 zero i = omega arith
below-255 (suc n) zero = omega arith
below-255 (suc n) (suc i) = below-255 n i

pub whole-after : (c r : ℕ) → c % 4 ≡ 0 → (cs : List Call) → bytes (words (afterwards probe_call (fresh c r) cs).card) ≡ (afterwards probe_call (fresh c r) cs).card
whole-after c r e cs = after-whole (fresh c r) first cs
  where
    first : Whole (fresh c r).card
    first = unfold fresh in bytes-words (replicate c 255) (below-255 c) (ap (λ n. n % 4) (length-replicate c 255) ∙ e)

-- ---- bytes of all ones

pub ones-bytes : (W : List ℕ) (k : ℕ) → get_or W (k / 4) 0 ≡ all_ones → get_or (bytes W) k 0 ≡ 255
unfolding bytes
ones-bytes [] k e = absurd (omega arith)
ones-bytes (w ∷ W) zero e = omega arith
ones-bytes (w ∷ W) (suc zero) e = omega arith
ones-bytes (w ∷ W) (suc (suc zero)) e = omega arith
ones-bytes (w ∷ W) (suc (suc (suc zero))) e = omega arith
ones-bytes (w ∷ W) (suc (suc (suc (suc k)))) e =
    let next : suc (suc (suc (suc k))) / 4 ≡ suc (k / 4) = omega arith in
    ones-bytes W k (sym (ap (λ i. get_or (w ∷ W) i 0) next) ∙ e)
