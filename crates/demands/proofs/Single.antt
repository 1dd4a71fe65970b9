-- Two results that keep one promise are equal: the answer in the code's own form, the state, and every buffer.
use Rattle.std.specs.Prelude.{Some, Option, None, Result, Ok, Err, ⊤}
use Rattle.answers.specs.declared.Refusal.{Refusal}
use Rattle.answers.specs.declared.Mean.{Mean}
use Rattle.lists.proofs.Prelude.{List, ◌≡◌, refl, sym, ap, ap₂, ◌∙◌, ℕ, ◌≤◌, arith, length, length-append, length-take-le}
use Rattle.answers.specs.Answers.{Halt, never, halted, Answer, done, number, hits, mean, forecast, refused, Outcome}
use Rattle.answers.specs.Numbers.{replied, opened_as, found_as, averaged_as, halt_as, forecast_as}
use Rattle.answers.proofs.Refusals.{refusal_of, refusal-back}
use Rattle.answers.specs.declared.Found.{Found}
use Rattle.answers.specs.declared.Stop.{Stop}
use Rattle.answers.specs.declared.Forecast.{Forecast}
use Rattle.answers.specs.declared.Hit.{Hit}
use Rattle.state.specs.declared.State.{State}
use Rattle.state.specs.Probe.{Store, Probe}
use Rattle.windows.specs.Promises.{Gives, store_of, probe_of}
use Rattle.windows.specs.declared.After.{After}
use Rattle.queries.specs.Finds.{hits_in, Finds}
use Rattle.queries.specs.declared.Answered.{Answered}
use Rattle.ranking.specs.declared.Top.{Top}
use Rattle.hits.specs.Lent.{hit_count}

-- ---- an answer says which value of the code it stands for

abbrev reply_of : Answer → Result ⊤ Refusal
reply_of done = Ok tt
reply_of (number n) = Ok tt
reply_of (hits l n) = Ok tt
reply_of (mean q r f) = Ok tt
reply_of (forecast k b m h) = Ok tt
reply_of (refused n) = Err (refusal_of n)

reply-back : (r : Result ⊤ Refusal) → reply_of (replied r) ≡ r
reply-back (Ok x) = refl
reply-back (Err w) = ap Err (refusal-back w)

abbrev opened_of : Answer → Result ℕ Refusal
opened_of done = Ok 0
opened_of (number n) = Ok n
opened_of (hits l n) = Ok 0
opened_of (mean q r f) = Ok 0
opened_of (forecast k b m h) = Ok 0
opened_of (refused n) = Err (refusal_of n)

opened-back : (r : Result ℕ Refusal) → opened_of (opened_as r) ≡ r
opened-back (Ok n) = refl
opened-back (Err w) = ap Err (refusal-back w)

abbrev found : ℕ → ℕ → Found
found n taken = record { hits = n; taken = taken }

abbrev found_of : Answer → Result Found Refusal
found_of done = Ok (found 0 0)
found_of (number n) = Ok (found 0 0)
found_of (hits l n) = Ok (found (length l) n)
found_of (mean q r f) = Ok (found 0 0)
found_of (forecast k b m h) = Ok (found 0 0)
found_of (refused n) = Err (refusal_of n)

found_back : (r : Result Found Refusal) (l : List Hit) → hit_count r ≤ length l → found_of (found_as r l) ≡ r
found_back (Ok f) l h = ap (λ m. Ok (found m f.taken)) (length-take-le f.hits l h)
found_back (Err w) l h = ap Err (refusal-back w)

abbrev meant : ℕ → ℕ → ℕ → Mean
meant q r f = record { quotient = q; remainder = r; windows = f }

abbrev averaged_of : Answer → Result Mean Refusal
averaged_of done = Ok (meant 0 0 0)
averaged_of (number n) = Ok (meant 0 0 0)
averaged_of (hits l n) = Ok (meant 0 0 0)
averaged_of (mean q r f) = Ok (meant q r f)
averaged_of (forecast k b m h) = Ok (meant 0 0 0)
averaged_of (refused n) = Err (refusal_of n)

averaged-back : (r : Result Mean Refusal) → averaged_of (averaged_as r) ≡ r
averaged-back (Ok m) = refl
averaged-back (Err w) = ap Err (refusal-back w)

-- of a mean
pub one-averaged : (x y : Result Mean Refusal) → averaged_as x ≡ averaged_as y → x ≡ y
one-averaged x y e = sym (averaged-back x) ∙ ap averaged_of e ∙ averaged-back y

abbrev stop_of : Halt → Option Stop
stop_of never = None
stop_of (halted w j n) = Some (record { window = w; event = j; why = refusal_of n })

stop-back : (h : Option Stop) → stop_of (halt_as h) ≡ h
stop-back None = refl
stop-back (Some t) = ap (λ (r : Refusal). Some (record { window = t.window; event = t.event; why = r })) (refusal-back t.why)

abbrev foretold : ℕ → ℕ → ℕ → Option Stop → Forecast
foretold k b m h = record { flushes = k; blocks = b; entries = m; stop = h }

abbrev forecast_from : Answer → Result Forecast Refusal
forecast_from done = Ok (foretold 0 0 0 None)
forecast_from (number n) = Ok (foretold 0 0 0 None)
forecast_from (hits l n) = Ok (foretold 0 0 0 None)
forecast_from (mean q r f) = Ok (foretold 0 0 0 None)
forecast_from (forecast k b m h) = Ok (foretold k b m (stop_of h))
forecast_from (refused n) = Err (refusal_of n)

forecast-back : (r : Result Forecast Refusal) → forecast_from (forecast_as r) ≡ r
forecast-back (Ok f) = ap (λ (h : Option Stop). Ok (foretold f.flushes f.blocks f.entries h)) (stop-back f.stop)
forecast-back (Err w) = ap Err (refusal-back w)

-- of a forecast
pub one-forecasted : (x y : Result Forecast Refusal) → forecast_as x ≡ forecast_as y → x ≡ y
one-forecasted x y e = sym (forecast-back x) ∙ ap forecast_from e ∙ forecast-back y

-- ---- promises

-- of any
pub one-given : {S : Type 0} {s : S} {o : Outcome S} {a b : Answer} {x y : S} → Gives s o a x → Gives s o b y → (a ≡ b) × (x ≡ y)
one-given g h = (g.answer ∙ sym h.answer, g.left ∙ sym h.left)

same-reply : (x y : Result ⊤ Refusal) → replied x ≡ replied y → x ≡ y
same-reply x y e = sym (reply-back x) ∙ ap reply_of e ∙ reply-back y

same-replied : (x y : After ⊤) → replied x.answer ≡ replied y.answer → x.state ≡ y.state → x ≡ y
same-replied x y e f = ap₂ (λ (a : State) (b : Result ⊤ Refusal). record { state = a; answer = b }) f (same-reply x.answer y.answer e)

-- of a call that gives no value
module _ (x y : After ⊤) where
  pub one_state : {s : State} {o : Outcome State} → Gives s o (replied x.answer) x.state → Gives s o (replied y.answer) y.state → x ≡ y
  one_state g h = let e = one-given g h in same-replied x y e.0 e.1

  pub one_store : {s : Store} {o : Outcome Store} {c d : List ℕ} → Gives s o (replied x.answer) (store_of x.state c) → Gives s o (replied y.answer) (store_of y.state d) → (x ≡ y) × (c ≡ d)
  one_store g h = let e = one-given g h in (same-replied x y e.0 (ap (λ (p : Store). p.state) e.1), ap (λ (p : Store). p.card) e.1)

  pub one-probe : {s : Probe} {o : Outcome Probe} {c d r q : List ℕ} → Gives s o (replied x.answer) (probe_of x.state c r) → Gives s o (replied y.answer) (probe_of y.state d q)
      → (x ≡ y) × (c ≡ d) × (r ≡ q)
  one-probe g h =
      let e = one-given g h in
      (same-replied x y e.0 (ap (λ (p : Probe). p.state) e.1), ap (λ (p : Probe). p.card) e.1, ap (λ (p : Probe). p.register) e.1)

-- of an open
pub one-opening : {s : State} {o : Outcome State} (x y : After ℕ) → Gives s o (opened_as x.answer) x.state → Gives s o (opened_as y.answer) y.state → x ≡ y
one-opening x y g h =
    let e = one-given g h in
    ap₂ (λ (a : State) (b : Result ℕ Refusal). record { state = a; answer = b }) e.1 (sym (opened-back x.answer) ∙ ap opened_of e.0 ∙ opened-back y.answer)

-- of a query, with the list lent
pub one_list : {l : List Hit} {o : Outcome (List Hit)} (x y : Result Found Refusal) (c d : List Hit) → Gives l o (found_as x c) c → Gives l o (found_as y d) d → hit_count x ≤ length c → hit_count y ≤ length d
    → (x ≡ y) × (c ≡ d)
one_list x y c d g h m n =
    let e = one-given g h in
    (sym (found_back x c m) ∙ ap found_of e.0 ∙ found_back y d n, e.1)

-- of a query by value
finds-fits : (x : Answer) (k : ℕ) (a : Result Found Refusal) (t : Top) → Finds x k a t → hit_count a ≤ length t.hits
finds-fits x k (Ok a) t f =
    let e : a.hits ≡ t.used = f.used a refl in
    let u : t.used ≡ length (hits_in x) = ap (λ (u : Top). u.used) f.kept in
    let l : length (hits_in x) ≤ length t.hits = rw (ap (λ (u : Top). u.hits) f.kept) (simp length-append (omega arith)) in
    omega arith
finds-fits x k (Err w) t f = omega arith

pub one_found : (told : Answer) (k : ℕ) (x y : Answered) → Finds told k x.answer x.top → Finds told k y.answer y.top → x ≡ y
one_found told k x y f g =
    ap₂ (λ (a : Result Found Refusal) (t : Top). record { answer = a; top = t })
    (sym (found_back x.answer x.top.hits (finds-fits told k x.answer x.top f)) ∙ ap found_of (f.answer ∙ sym g.answer)
    ∙ found_back y.answer y.top.hits (finds-fits told k y.answer y.top g))
    (f.kept ∙ sym g.kept)
