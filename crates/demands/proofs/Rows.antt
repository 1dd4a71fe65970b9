-- Calls in a row that keep the promises of the public functions are the calls on one probe: the same answers, and the same probe between them.
use Rattle.std.specs.Prelude.{Result}
use Rattle.answers.specs.declared.Refusal.{Refusal}
use Rattle.answers.specs.declared.Mean.{Mean as Averaged}
use Rattle.lists.proofs.Prelude.{Bool, true, false, ◌&&◌, List, ◌∷◌, ◌≡◌, refl, sym, ap, ap₂, ◌∙◌, ℕ, arith, length, replicate, length-replicate}
use Rattle.words.specs.Words.{words}
use Rattle.postings.specs.declared.Stretch.{Stretch}
use Rattle.answers.specs.Answers.{Answer, done, refused, Outcome, refuse, leave, refuse_if, hits, answer_of, state_of, carry}
use Rattle.answers.specs.Numbers.{found_as, averaged_as, forecast_as}
use Rattle.answers.specs.declared.Found.{Found}
use Rattle.answers.specs.declared.Forecast.{Forecast}
use Rattle.answers.specs.declared.Hit.{Hit}
use Rattle.state.specs.declared.State.{State}
use Rattle.state.specs.Rules.{card_length, register_length, state_rule, lengths_rule}
use Rattle.state.specs.Views.{empty_state}
use Rattle.state.specs.Probe.{Store, Probe}
use Rattle.identifiers.specs.Names.{Name}
use Rattle.windows.specs.Calls.{fresh, start_of, unstarted, open_of, close_of}
use Rattle.events.specs.Event.{event_of}
use Rattle.flushes.specs.Flush.{flush_of}
use Rattle.windows.specs.Promises.{Gives, store_of, probe_of}
use Rattle.stretches.specs.Reached.{read_by}
use Rattle.queries.specs.Query.{numbers, taken_up, hits_of, querying, existing_on, query_of}
use Rattle.ranking.specs.Asked.{bad_query}
use Rattle.queries.specs.Finds.{answered, Finds}
use Rattle.ranking.specs.declared.Top.{Top}
use Rattle.means.specs.Mean.{meaning, mean_of}
use Rattle.forecasts.specs.Outlook.{forecast_of}
use Rattle.removals.specs.Removal.{remove_of}
use Rattle.batches.specs.Batch.{remove_all_of}
use Rattle.plans.specs.Step.{step_of}
use Rattle.engine.specs.Calls as calls
use Rattle.engine.specs.Calls.{Call, Open, Event, Close, Remove, RemoveAll, Flush, Step, Query, Mean, with_store, with_state, no_hit, probe_call, run}
use Rattle.histories.specs.Statement.{answers}
use Rattle.demands.specs.Promises.{Row, no_call, opening, counting, closing, removing, removing_all, flushing, stepping, asking, asking_value, averaging, foretelling, Begun}

-- ---- outcomes seen on the whole probe

answer-carry : {S T : Type 0} (f : S → T) (o : Outcome S) → answer_of (carry f o) ≡ answer_of o
answer-carry f (refuse n) = refl
answer-carry f (leave x s) = refl

pub state-carry : {S T : Type 0} (f : S → T) (s : S) (o : Outcome S) → state_of (f s) (carry f o) ≡ f (state_of s o)
state-carry f s (refuse n) = refl
state-carry f s (leave x t) = refl

-- ---- a query's answer does not depend on what its list had

pub same_if : {S T : Type 0} (t u : Bool) (n : ℕ) (o : Outcome S) (p : Outcome T) → t ≡ u → answer_of o ≡ answer_of p → answer_of (refuse_if t n o) ≡ answer_of (refuse_if u n p)
unfolding refuse_if
same_if true true n o p e f = refl
same_if false false n o p e f = f
same_if true false n o p e f = absurd (let z : ◌≡◌ {A = ℕ} 0 1 = cc in omega arith)
same_if false true n o p e f = absurd (let z : ◌≡◌ {A = ℕ} 0 1 = cc in omega arith)

query-any : (p : Probe) (t : Stretch) (ns : List Name) (places others : List Hit) → length places ≡ length others → answer_of (query_of p t ns places) ≡ answer_of (query_of p t ns others)
unfolding query_of querying
query-any p t ns places others e =
    same_if _ _ 1 _ _ refl
    (same_if _ _ 2 _ _ refl
    (same_if _ _ 3 _ _ refl
    (same_if _ _ 4 _ _ refl
    (same_if _ _ 14 _ _ (ap (λ k. bad_query k ns) e)
    (same_if _ _ 17 _ _ refl
    (ap
    (λ k. hits (hits_of (words p.card) (read_by t p.state) t (existing_on p t) k (numbers p.register ns)) (taken_up (words p.card) (read_by t p.state) (numbers p.register ns)))
    e))))))

-- the mean of a call
pub mean-called : (p : Probe) (n : Name) → answer_of (mean_of p n) ≡ answer_of (probe_call p (Mean n))
unfolding probe_call
mean-called p n = sym (answer-carry (λ (u : Unit {0}). p) (mean_of p n))

-- the query of a call, for whatever list is lent
pub query-called : (p : Probe) (t : Stretch) (ns : List Name) (places : List Hit) → answer_of (query_of p t ns places) ≡ answer_of (probe_call p (Query (length places) t ns))
unfolding probe_call
query-called p t ns places =
    query-any p t ns places (replicate (length places) no_hit) (sym (length-replicate (length places) no_hit))
    ∙ sym (answer-carry (λ (l : List Hit). p) (query_of p t ns (replicate (length places) no_hit)))

-- ---- in a row

-- a result that keeps the promise of a call is that call's on the probe: its answer, and what it leaves with what was not lent
abbrev Is : Probe → Call → Answer → Probe → Type 0
Is p c x q = (x ≡ answer_of (probe_call p c)) × (q ≡ state_of p (probe_call p c))

module _ (p : Probe) where
  -- of a call on the state alone
  on-state : (o : Outcome State) (x : Answer) (t : State) → Gives p.state o x t → (x ≡ answer_of (carry (with_state p) o)) × (with_state p t ≡ state_of p (carry (with_state p) o))
  on-state o x t g = (g.answer ∙ sym (answer-carry (with_state p) o), ap (with_state p) g.left ∙ sym (state-carry (with_state p) p.state o))

  -- of a call that is lent the card
  on-card : (o : Outcome Store) (x : Answer) (t : Store) → Gives (store_of p.state p.card) o x t → (x ≡ answer_of (carry (with_store p) o)) × (with_store p t ≡ state_of p (carry (with_store p) o))
  on-card o x t g = (g.answer ∙ sym (answer-carry (with_store p) o), ap (with_store p) g.left ∙ sym (state-carry (with_store p) (store_of p.state p.card) o))

  open_is : (x : Answer) (t : State) → Gives p.state (open_of p.state) x t → Is p Open x (with_state p t)
  unfolding probe_call
  open_is x t g = on-state _ x t g

  close-is : (x : Answer) (t : State) → Gives p.state (close_of p.state) x t → Is p Close x (with_state p t)
  unfolding probe_call
  close-is x t g = on-state _ x t g

  event-is : (n : Name) (x : Answer) (q : Probe) → Gives p (event_of p n) x q → Is p (Event n) x q
  unfolding probe_call
  event-is n x q g = (g.answer, g.left)

  remove-is : (w : ℕ) (x : Answer) (t : Store) → Gives (store_of p.state p.card) (remove_of (store_of p.state p.card) w) x t → Is p (Remove w) x (with_store p t)
  unfolding probe_call
  remove-is w x t g = on-card _ x t g

  remove-all-is : (ws : List ℕ) (x : Answer) (t : Store) → Gives (store_of p.state p.card) (remove_all_of (store_of p.state p.card) ws) x t → Is p (RemoveAll ws) x (with_store p t)
  unfolding probe_call
  remove-all-is ws x t g = on-card _ x t g

  flush-is : (x : Answer) (t : Store) → Gives (store_of p.state p.card) (flush_of (store_of p.state p.card)) x t → Is p Flush x (with_store p t)
  unfolding probe_call
  flush-is x t g = on-card _ x t g

  step_is : (x : Answer) (t : Store) → Gives (store_of p.state p.card) (step_of (store_of p.state p.card)) x t → Is p Step x (with_store p t)
  unfolding probe_call
  step_is x t g = on-card _ x t g

  -- a query leaves the probe, and answers by how many places there are
  query-left : (k : ℕ) (t : Stretch) (ns : List Name) → p ≡ state_of p (probe_call p (Query k t ns))
  unfolding probe_call
  query-left k t ns = sym (state-carry (λ (l : List Hit). p) (replicate k no_hit) (query_of p t ns (replicate k no_hit)))

  query-is : (t : Stretch) (ns : List Name) (places : List Hit) (x : Answer) (l : List Hit) → Gives places (query_of p t ns places) x l → Is p (Query (length places) t ns) x p
  query-is t ns places x l g = (g.answer ∙ query-called p t ns places, query-left (length places) t ns)

  value-is : (t : Stretch) (ns : List Name) (k : ℕ) (a : Result Found Refusal) (u : Top) → Finds (answered p t ns k) k a u → Is p (Query k t ns) (found_as a u.hits) p
  unfolding probe_call
  value-is t ns k a u f = (f.answer ∙ sym (answer-carry (λ (l : List Hit). p) (query_of p t ns (replicate k no_hit))), query-left k t ns)

  -- a mean leaves it too
  mean-is : (n : Name) (a : Result Averaged Refusal) → averaged_as a ≡ answer_of (mean_of p n) → Is p (Mean n) (averaged_as a) p
  unfolding probe_call
  mean-is n a e = (e ∙ mean-called p n, sym (state-carry (λ (u : Unit {0}). p) tt (mean_of p n)))

  -- and so does a forecast
  forecast-is : (plan counts : List ℕ) (a : Result Forecast Refusal) → forecast_as a ≡ answer_of (forecast_of p.state p.register plan counts) → Is p (calls.Forecast plan counts) (forecast_as a) p
  unfolding probe_call
  forecast-is plan counts a e =
      let o = forecast_of p.state p.register plan counts in
      (e ∙ sym (answer-carry (λ (u : Unit {0}). p) o), sym (state-carry (λ (u : Unit {0}). p) tt o))

-- one call, and what follows it
follow : (p : Probe) (c : Call) (cs : List Call) (x : Answer) (q : Probe) (told : List Answer) → Is p c x q → told ≡ run probe_call q cs → x ∷ told ≡ run probe_call p (c ∷ cs)
unfolding run
follow p c cs x q told e g = ap₂ ◌∷◌ e.0 (g ∙ ap (λ (y : Probe). run probe_call y cs) e.1)

pub row-run : {s : State} {card register : List ℕ} {cs : List Call} {told : List Answer} → Row s card register cs told → told ≡ run probe_call (probe_of s card register) cs
row-run no_call = unfold run in refl
row-run (opening {s} {card} {register} {cs} {told} r g row) = follow _ Open cs _ _ told (open_is (probe_of s card register) _ _ g) (row-run row)
row-run (counting {s} {card} {register} {cs} {told} {id} r g row) = follow _ (Event id) cs _ _ told (event-is (probe_of s card register) id _ _ g) (row-run row)
row-run (closing {s} {card} {register} {cs} {told} r g row) = follow _ Close cs _ _ told (close-is (probe_of s card register) _ _ g) (row-run row)
row-run (removing {s} {card} {register} {cs} {told} {window} r {card'} g row) = follow _ (Remove window) cs _ (probe_of r.state card' register) told (remove-is (probe_of s card register) window _ _ g) (row-run row)
row-run (removing_all {s} {card} {register} {cs} {told} {windows} r {card'} g row) = follow _ (RemoveAll windows) cs _ (probe_of r.state card' register) told (remove-all-is (probe_of s card register) windows _ _ g) (row-run row)
row-run (flushing {s} {card} {register} {cs} {told} r {card'} g row) = follow _ Flush cs _ (probe_of r.state card' register) told (flush-is (probe_of s card register) _ _ g) (row-run row)
row-run (stepping {s} {card} {register} {cs} {told} r {card'} g row) = follow _ Step cs _ (probe_of r.state card' register) told (step_is (probe_of s card register) _ _ g) (row-run row)
row-run (asking {s} {card} {register} {cs} {told} {stretch} {ids} {hits} r g row) =
    follow _ (Query (length hits) stretch ids) cs _ _ told (query-is (probe_of s card register) stretch ids hits _ _ g.0) (row-run row)
row-run (asking_value {s} {card} {register} {cs} {told} {stretch} {ids} {places} r g row) =
    follow _ (Query places stretch ids) cs _ _ told (value-is (probe_of s card register) stretch ids places r.answer r.top g) (row-run row)
row-run (averaging {s} {card} {register} {cs} {told} {id} r g row) = follow _ (Mean id) cs _ _ told (mean-is (probe_of s card register) id r g) (row-run row)
row-run (foretelling {s} {card} {register} {cs} {told} {plan} {counts} r g row) =
    follow _ (calls.Forecast plan counts) cs _ _ told (forecast-is (probe_of s card register) plan counts r g) (row-run row)

-- ---- start

-- a start on buffers of lengths within the limits
pub start-fresh : (card register : List ℕ) → card_length (length card) ≡ true → register_length (length register) ≡ true
    → start_of card register ≡ leave done (fresh (length card) (length register))
unfolding start_of refuse_if
start-fresh card register c r = rw (c, r)

-- on any others
pub start-refuses : (card register : List ℕ) → (card_length (length card) && register_length (length register)) ≡ false → start_of card register ≡ refuse 2
unfolding start_of refuse_if
start-refuses card register e = rw e

-- a state of zeros breaks the rules
zeros-broken : state_rule (empty_state 0 0 0) ≡ false
unfolding state_rule lengths_rule
zeros-broken = refl

-- so every call on it is refused with 1
pub all-unstarted : (card register : List ℕ) (c : Call) → answer_of (probe_call (unstarted card register) c) ≡ refused 1
unfolding probe_call unstarted open_of close_of event_of flush_of remove_of remove_all_of step_of query_of querying mean_of meaning forecast_of refuse_if
all-unstarted card register Open = rw zeros-broken
all-unstarted card register (Event n) = rw zeros-broken
all-unstarted card register Close = rw zeros-broken
all-unstarted card register (Remove w) = rw zeros-broken
all-unstarted card register (RemoveAll ws) = rw zeros-broken
all-unstarted card register Flush = rw zeros-broken
all-unstarted card register Step = rw zeros-broken
all-unstarted card register (Query k t ns) = rw zeros-broken
all-unstarted card register (Mean n) = rw zeros-broken
all-unstarted card register (calls.Forecast plan counts) = rw zeros-broken

-- ---- from a start on

pub begun-run : (card register : List ℕ) → card_length (length card) ≡ true → register_length (length register) ≡ true
    → (cs : List Call) (told : List Answer) → Begun card register cs told → told ≡ answers (length card) (length register) cs
unfolding answers
begun-run card register c r cs told b =
    row-run b.row ∙ ap (λ (p : Probe). run probe_call p cs) (b.promise.left ∙ ap (state_of (unstarted card register)) (start-fresh card register c r))
