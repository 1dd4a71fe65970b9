-- What a plan comes to, followed on a probe, is told by its calls really made, one after another.
use Rattle.lists.proofs.Prelude.{Bool, true, false, cond, List, [], ◌∷◌, ◌≡◌, refl, sym, ap, ◌∙◌, subst, ℕ, suc, ◌+◌, arith, ltb, length, every, and_both}
use Rattle.answers.specs.Answers.{Halt, halted, Answer, done, number, hits, mean, forecast, refused, Outcome, refuse, leave, refuse_if, choose, after, answer_of, state_of, carry}
use Rattle.state.specs.declared.State.{State}
use Rattle.state.specs.Probe.{Probe}
use Rattle.identifiers.specs.Register.{names}
use Rattle.windows.specs.Calls.{open_of, close_of}
use Rattle.flushes.specs.Flush.{finished_blocks, flushing, flushing_if}
use Rattle.events.specs.Event.{event_of}
use Rattle.forecasts.specs.Plan.{Planned, Placed, opening, counting, closing}
use Rattle.forecasts.specs.Course.{Gauge, told, writes, follow}
use Rattle.engine.specs.Calls.{with_state, probe_call, planned_call, probe_gauge, run, afterwards}
use Rattle.demands.specs.Words.{is_granted, calls_of, wrote, told_of, Foreseen, all_done, next_refused}

-- ---- a plan's call is refused, or its answer is no refusal

data Fair {S : Type 0} : Outcome S → Type 0 where
  refusing : {n : ℕ} → Fair (refuse n)
  leaving : {x : Answer} {s : S} → is_granted x ≡ true → Fair (leave x s)

module _ {S : Type 0} where
  fair-if : (t : Bool) (n : ℕ) (o : Outcome S) → Fair o → Fair (refuse_if t n o)
  unfolding refuse_if
  fair-if true n o f = refusing
  fair-if false n o f = f

  fair-choose : (t : Bool) (o q : Outcome S) → Fair o → Fair q → Fair (choose t o q)
  unfolding choose
  fair-choose true o q f g = f
  fair-choose false o q f g = g

  fair-flush : (t : Bool) (s : State) (card : List ℕ) (k : State → List ℕ → Outcome S) → ((u : State) (c : List ℕ) → Fair (k u c)) → Fair (flushing_if t s card k)
  unfolding flushing_if flushing
  fair-flush t s card k h = fair-choose t _ _ (fair-choose _ _ _ (h s card) (fair-if _ 10 _ (fair-if _ 11 _ (fair-if _ 12 _ (h _ _))))) (h s card)

  fair-carry : {T : Type 0} (f : S → T) {o : Outcome S} → Fair o → Fair (carry f o)
  fair-carry f refusing = refusing
  fair-carry f (leaving e) = leaving e

planned-fair : (p : Probe) (c : Planned) → Fair (probe_call p (planned_call c))
unfolding probe_call open_of event_of close_of
planned-fair p opening = fair-carry (with_state p) (fair-if _ 1 _ (fair-if _ 5 _ (fair-if _ 6 _ (leaving refl))))
planned-fair p (counting n) =
    fair-if _ 1 _ (fair-if _ 2 _ (fair-if _ 3 _ (fair-if _ 4 _ (fair-if _ 5 _ (fair-if _ 6 _ (fair-if _ 8 _ (fair-if _ 9 _
    (fair-flush _ p.state p.card _ (λ u c. leaving refl)))))))))
planned-fair p closing = fair-carry (with_state p) (fair-if _ 1 _ (fair-if _ 5 _ (leaving refl)))

-- ---- flushes counted from 0, and others added to them

abbrev later : ℕ → Answer → Answer
later k done = done
later k (number n) = number n
later k (hits l n) = hits l n
later k (mean q r f) = mean q r f
later k (forecast j b m h) = forecast (k + j) b m h
later k (refused n) = refused n

later-later : (j k : ℕ) (a : Answer) → later j (later k a) ≡ later (j + k) a
later-later j k done = refl
later-later j k (number n) = refl
later-later j k (hits l n) = refl
later-later j k (mean q r f) = refl
later-later j k (forecast i b m h) = ap (λ x. forecast x b m h) (omega arith)
later-later j k (refused n) = refl

module _ {S : Type 0} (g : Gauge S) (f : S → Planned → Outcome S) where
  writes_more : (s t : S) (k : ℕ) → writes g f s t k ≡ k + writes g f s t 0
  writes_more s t k = go (ltb (g.low s) (g.low t))
    where
      go : (b : Bool) → cond b (suc k) k ≡ k + cond b (suc 0) 0
      go true = omega arith
      go false = omega arith

  follow-later : (cs : List Placed) (k : ℕ) (s : S) → follow g f k s cs ≡ later k (follow g f 0 s cs)
  unfolding follow after
  follow-later [] k s = ap (λ x. told g f x s _) (omega arith)
  follow-later (c ∷ cs) k s = go (f s c.call) (follow-later cs)
    where
      go : (o : Outcome S) → ((j : ℕ) (t : S) → follow g f j t cs ≡ later j (follow g f 0 t cs))
          → after o (λ n. told g f k s (halted c.window c.event n)) (λ t. follow g f (writes g f s t k) t cs)
          ≡ later k (after o (λ n. told g f 0 s (halted c.window c.event n)) (λ t. follow g f (writes g f s t 0) t cs))
      go (refuse n) rest = ap (λ x. told g f x s (halted c.window c.event n)) (omega arith)
      go (leave x t) rest =
          rest (writes g f s t k) t ∙ ap (λ j. later j (follow g f 0 t cs)) (writes_more s t k)
          ∙ sym (later-later k (writes g f s t 0) (follow g f 0 t cs)) ∙ ap (later k) (sym (rest (writes g f s t 0) t))

-- ---- one after another

-- one call that is done, and then others
module _ (p : Probe) (c : Placed) (x : Answer) (q : Probe) (e : probe_call p (planned_call c.call) ≡ leave x q) (good : is_granted x ≡ true) where
  abbrev one : ℕ
  one = cond (ltb (probe_gauge.low p) (probe_gauge.low q)) 1 0

  granted_joined : (cs : List Placed) → every is_granted (run probe_call q (calls_of cs)) ≡ true → every is_granted (run probe_call p (calls_of (c ∷ cs))) ≡ true
  unfolding run
  granted_joined cs h = ap (λ (o : Outcome Probe). every is_granted (answer_of o ∷ run probe_call (state_of p o) (calls_of cs))) e ∙ and_both (is_granted x) _ good h

  left-joined : (cs : List Placed) → afterwards probe_call p (calls_of (c ∷ cs)) ≡ afterwards probe_call q (calls_of cs)
  unfolding afterwards
  left-joined cs = ap (λ (o : Outcome Probe). afterwards probe_call (state_of p o) (calls_of cs)) e

  told-joined : (cs : List Placed) (h : Halt) → told_of p (c ∷ cs) h ≡ later one (told_of q cs h)
  unfolding afterwards
  told-joined cs h =
      ap (λ (o : Outcome Probe). forecast (cond (ltb (probe_gauge.low p) (probe_gauge.low (state_of p o))) 1 0 + wrote (state_of p o) cs)
      (finished_blocks (afterwards probe_call (state_of p o) (calls_of cs)).state) (length (names (afterwards probe_call (state_of p o) (calls_of cs)).register)) h) e

  joins : (cs : List Placed) (a : Answer) → Foreseen q cs a → Foreseen p (c ∷ cs) (later one a)
  joins cs _ (all_done h) = subst (Foreseen p (c ∷ cs)) (told-joined cs _) (all_done (granted_joined cs h))
  joins cs _ (next_refused first d rest n s h r) =
      subst (Foreseen p (c ∷ cs)) (told-joined first _)
      (next_refused (c ∷ first) d rest n (ap (λ (l : List Placed). c ∷ l) s) (granted_joined first h)
      (ap (λ (y : Probe). answer_of (probe_call y (planned_call d.call))) (left-joined first) ∙ r))

-- a plan's call on a probe
abbrev made : Probe → Planned → Outcome Probe
made q c = probe_call q (planned_call c)

pub follow-foreseen : (cs : List Placed) (p : Probe) → Foreseen p cs (follow probe_gauge made 0 p cs)
unfolding follow after afterwards run
follow-foreseen [] p = all_done refl
follow-foreseen (c ∷ cs) p = go (probe_call p (planned_call c.call)) refl (planned-fair p c.call) (follow-foreseen cs)
  where
    go : (o : Outcome Probe) → probe_call p (planned_call c.call) ≡ o → Fair o → ((q : Probe) → Foreseen q cs (follow probe_gauge made 0 q cs))
        → Foreseen p (c ∷ cs)
        (after o (λ n. told probe_gauge made 0 p (halted c.window c.event n))
        (λ q. follow probe_gauge made (writes probe_gauge made p q 0) q cs))
    go (refuse n) e fair rest = next_refused [] c cs n refl refl (ap answer_of e)
    go (leave x q) e (leaving good) rest =
        subst (Foreseen p (c ∷ cs)) (sym (follow-later probe_gauge made cs _ q)) (joins p c x q e good cs _ (rest q))
