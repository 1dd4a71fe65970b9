-- The step that is lent the record of the merge beside the state.
use Rattle.lists.proofs.Prelude.{true, false, ◌≡◌, refl, sym, ap, subst, eqb, eqb-true, eq-eqb, and_left, and_right, by-test}
use Rattle.answers.specs.Answers.{Answer, Outcome, refuse, leave, refuse_if, carry}
use Rattle.answers.specs.Unchanged.{Unchanged}
use Rattle.answers.proofs.Kept.{unchanged-carry}
use Rattle.state.specs.declared.MergeJob.{MergeJob}
use Rattle.state.specs.Probe.{Store}
use Rattle.windows.specs.Promises.{Gives}
use Rattle.plans.specs.Step.{step_of}
use Rattle.merges.proofs.Refused.{step-unchanged}
use Rattle.jobs.specs.Lent.{Lent, with_own, same_record, lent_step_of}

-- the test says whether two records are equal
same-equal : (a b : MergeJob) → same_record a b ≡ true → a ≡ b
same-equal a b e =
    let rest = and_right (eqb a.first b.first) _ e in
    alike (eqb-true _ _ (and_left _ _ e)) (eqb-true _ _ (and_left _ _ rest)) (eqb-true _ _ (and_right (eqb a.length b.length) _ rest))
  where
    alike : a.first ≡ b.first → a.length ≡ b.length → a.steps ≡ b.steps
        → ◌≡◌ {A = MergeJob} (record { first = a.first; length = a.length; steps = a.steps }) (record { first = b.first; length = b.length; steps = b.steps })
    alike f l t = cc

equal-same : (a : MergeJob) → same_record a a ≡ true
equal-same a = rw (eq-eqb a.first a.first refl, eq-eqb a.length a.length refl, eq-eqb a.steps a.steps refl)

other-refused : (l : Lent) → same_record l.job l.store.state.merge ≡ false → lent_step_of l ≡ refuse 1
unfolding lent_step_of refuse_if
other-refused l e = rw e

-- another record than the state's own is refused with 1
pub lent_other : (l : Lent) → (l.job ≡ l.store.state.merge → ⊥) → lent_step_of l ≡ refuse 1
lent_other l h = by-test (same_record l.job l.store.state.merge) (λ e. absurd (h (same-equal l.job l.store.state.merge e))) (other-refused l)

-- the state's own record changes nothing of the step, and is moved on as the state's own
pub lent-own : (p : Store) → lent_step_of (with_own p) ≡ carry with_own (step_of p)
unfolding lent_step_of refuse_if
lent-own p = rw (equal-same p.state.merge)

-- a record that is the same is the state's own
own-record : (l : Lent) → same_record l.job l.store.state.merge ≡ true → with_own l.store ≡ l
own-record l e = ap (λ (j : MergeJob). record { store = l.store; job = j }) (sym (same-equal l.job l.store.state.merge e))

-- a refused step leaves state, card and record as they were
pub lent-unchanged : (l : Lent) → Unchanged l (lent_step_of l)
lent-unchanged l =
    by-test (same_record l.job l.store.state.merge)
    (λ e. let own = own-record l e in
    subst (λ (x : Lent). Unchanged x (lent_step_of x)) own (rw (lent-own l.store) (unchanged-carry with_own l.store (with_own l.store) (step_of l.store) refl (step-unchanged l.store))))
    (λ e. rw (other-refused l e) (record { same = λ m r. refl }))

module _ {a : Answer} (p : Store) where
  carried : (after : Store) (o : Outcome Store) → Gives p o a after → Gives (with_own p) (carry with_own o) a (with_own after)
  carried after (refuse n) g = record { answer = g.answer; left = ap with_own g.left }
  carried after (leave x t) g = record { answer = g.answer; left = ap with_own g.left }

  back : (after : Lent) (o : Outcome Store) → Gives (with_own p) (carry with_own o) a after → Gives p o a after.store
  back after (refuse n) g = record { answer = g.answer; left = ap (λ (l : Lent). l.store) g.left }
  back after (leave x t) g = record { answer = g.answer; left = ap (λ (l : Lent). l.store) g.left }

  -- what the step promises without the record, it promises with it
  pub gives-lent : (job : MergeJob) (after : Store) → same_record job p.state.merge ≡ true → Gives p (step_of p) a after
      → Gives (record { store = p; job = job }) (lent_step_of (record { store = p; job = job })) a (with_own after)
  gives-lent job after e g =
      subst (λ (l : Lent). Gives l (lent_step_of l) a (with_own after)) (own-record (record { store = p; job = job }) e) (rw (lent-own p) (carried after (step_of p) g))
