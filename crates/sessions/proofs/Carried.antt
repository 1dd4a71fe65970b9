-- What each call promises of a state or a store is what a line promises of the probe.
use Rattle.answers.specs.declared.Refusal.{Refusal}
use Rattle.lists.proofs.Prelude.{List, ◌≡◌, refl, sym, ◌∙◌, ap, ℕ, arith, replicate}
use Rattle.std.specs.Prelude.{Result, Ok, Err, Option, Some}
use Rattle.postings.specs.declared.Stretch.{Stretch}
use Rattle.answers.specs.Answers.{Answer, Outcome, refuse, leave, answer_of, state_of, carry}
use Rattle.answers.specs.Numbers.{found_as}
use Rattle.answers.specs.declared.Found.{Found}
use Rattle.answers.specs.declared.Hit.{Hit}
use Rattle.identifiers.specs.Names.{Name}
use Rattle.state.specs.declared.State.{State}
use Rattle.state.specs.Probe.{Store, Probe}
use Rattle.windows.specs.Promises.{Gives, store_of, probe_of}
use Rattle.queries.specs.Finds.{answered, Finds}
use Rattle.queries.specs.Query.{query_of}
use Rattle.ranking.specs.declared.Top.{Top}
use Rattle.engine.specs.Calls.{Call, Query, with_store, with_state, no_hit, probe_call}
use Rattle.texts.specs.Texts.{answer_text, Says, Few}
use Rattle.sessions.specs.Answering.{text_of, left_of, Obeys}

answer-carry : {S T : Type 0} (f : S → T) (o : Outcome S) → answer_of (carry f o) ≡ answer_of o
answer-carry f (refuse n) = refl
answer-carry f (leave x s) = refl

state-carry : {S T : Type 0} (f : S → T) (s : S) (o : Outcome S) → state_of (f s) (carry f o) ≡ f (state_of s o)
state-carry f s (refuse n) = refl
state-carry f s (leave x r) = refl

-- promised of a part of the probe, promised of the probe
carried : {S : Type 0} (f : S → Probe) {s after : S} {o : Outcome S} {a : Answer} → Gives s o a after → Gives (f s) (carry f o) a (f after)
carried f {s = s} {o = o} g = record { answer = g.answer ∙ sym (answer-carry f o); left = ap f g.left ∙ sym (state-carry f s o) }

pub on-state : {s after : State} {o : Outcome State} {a : Answer} (card register : List ℕ) → Gives s o a after
    → Gives (probe_of s card register) (carry (with_state (probe_of s card register)) o) a (probe_of after card register)
on-state {s = s} card register g = carried (with_state (probe_of s card register)) g

pub on_store : {s after : State} {card card' : List ℕ} {o : Outcome Store} {a : Answer} (register : List ℕ) → Gives (store_of s card) o a (store_of after card')
    → Gives (probe_of s card register) (carry (with_store (probe_of s card register)) o) a (probe_of after card' register)
on_store {s = s} {card = card} register g = carried (with_store (probe_of s card register)) g

-- a call made, and its answer written
pub written : {p after : Probe} {c : Call} {a : Answer} {buffer : List ℕ} {n : ℕ} → Gives p (probe_call p c) a after → Says buffer n (answer_text a) → Obeys p (Some c) buffer n after
unfolding text_of left_of
written g w = record { says = rw (← g.answer) w; left = g.left }

-- the same, of fields that say the same
pub obeys-as : {p after : Probe} {c d : Option Call} {buffer : List ℕ} {n : ℕ} → c ≡ d → Obeys p d buffer n after → Obeys p c buffer n after
obeys-as e t = rw e t

-- an answer lists as many hits as stand beside it
pub few-found : {x : Answer} {k : ℕ} {a : Result Found Refusal} {t : Top} → Finds x k a t → Few a
few-found {a = Ok a} f = omega (arith, f.used a refl, f.most)
few-found {a = Err why} f = tt

-- a query made, and its answer written
pub written-found : {p : Probe} {st : Stretch} {ids : List Name} {k : ℕ} {a : Result Found Refusal} {t : Top} → Finds (answered p st ids k) k a t
    → {buffer : List ℕ} {n : ℕ} → Says buffer n (answer_text (found_as a t.hits)) → Obeys p (Some (Query k st ids)) buffer n p
unfolding text_of left_of probe_call
written-found {p = p} {st = st} {ids = ids} {k = k} f w =
    let o : Outcome (List Hit) = query_of p st ids (replicate k no_hit) in
    record { says = rw (answer-carry, ← f.answer) w; left = sym (kept o) }
  where
    kept : (o : Outcome (List Hit)) → state_of p (carry (λ (l : List Hit). p) o) ≡ p
    kept (refuse m) = refl
    kept (leave x l) = refl
