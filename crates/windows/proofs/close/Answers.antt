use Rattle.lists.proofs.Prelude.{not, cond, ⊎_elim, ◌≡◌, refl, sym, ap, ◌∙◌, suc, ◌-◌, ◌<◌, add-one, arith, eqb, rules, eq-eqb, ne_eqb, not-false}
use Rattle.state.proofs.Kept.{state-kept, Shut, Opened}
use Rattle.windows.specs.Calls.{close_of, closed}
use Rattle.windows.proofs.Outcomes.{stopped, passed, given}
use Rattle.windows.proofs.close.Goals as goal

pub returns-then-not-state_ok : goal.returns-then-not-state_ok
unfolding close_of
returns-then-not-state_ok c = rw c.refuse.ensures (stopped _ 1 _ (ap not (sym c.state_ok.ensures) ∙ c.if-not-state_ok.true-raw))

pub returns-then-s-eq0 : goal.returns-then-s-eq0
unfolding close_of
returns-then-s-eq0 c =
    rw c.refuse-then-s-eq0.ensures
    (passed _ 1 _ (ap not (sym c.state_ok.ensures) ∙ c.if-not-state_ok.false-raw)
    (stopped _ 5 _ (ap (λ t. not (not t)) (eq-eqb _ _ c.if-s-eq0.true))))

pub overflow_sub-last : goal.overflow_sub-last
overflow_sub-last c =
    let k = state-kept _ (sym c.state_ok.ensures ∙ not-false _ c.if-not-state_ok.false-raw) in
    ⊎_elim (λ (h : Shut _). absurd (c.if-s-eq0.false h.number)) (λ (o : Opened _). omega (arith, o.some, o.number)) k.windows.window

pub overflow_add-live : goal.overflow_add-live
overflow_add-live c =
    let s = c.args.s in
    let k = state-kept _ (sym c.state_ok.ensures ∙ not-false _ c.if-not-state_ok.false-raw) in
    let low : s.windows.live < s.windows.current =
    ⊎_elim (λ (h : Shut s.windows). absurd (c.if-s-eq0.false h.number)) (λ (o : Opened s.windows). o.below) k.windows.window in
    let known = c.struct_known-1.given.1.0 in
    search rules

pub returns : goal.returns
unfolding close_of closed
returns c =
    let s = c.args.s in
    let last : c.if-s-eq0-2.last ≡ cond (eqb s.windows.events 0) (s.windows.last - 1) s.windows.last =
    ⊎_elim (λ w. rw (eq-eqb s.windows.events 0 w.if-s-eq0-2.true) w.last-is) (λ w. rw (ne_eqb s.windows.events 0 w.if-s-eq0-2.false) w.last-is) c.if-s-eq0-2.branch-raw in
    let live : c.if-s-eq0-2.live ≡ cond (eqb s.windows.events 0) s.windows.live (suc s.windows.live) =
    ⊎_elim (λ w. rw (eq-eqb s.windows.events 0 w.if-s-eq0-2.true) w.live-is) (λ w. rw (ne_eqb s.windows.events 0 w.if-s-eq0-2.false) (w.live-is ∙ add-one s.windows.live)) c.if-s-eq0-2.branch-raw in
    rw (c.done.ensures, c.new.ensures, last, live)
    (passed _ 1 _ (ap not (sym c.state_ok.ensures) ∙ c.if-not-state_ok.false-raw)
    (passed _ 5 _ (ap (λ t. not (not t)) (ne_eqb _ _ c.if-s-eq0.false)) (given _ refl)))
