use Rattle.lists.proofs.Prelude.{not, refl, sym, ap, ◌∙◌, add-one, arith, rules, eq-eqb, ne_eqb, le-leb, lt-leb}
use Rattle.windows.specs.Calls.{open_of, opened}
use Rattle.windows.proofs.Outcomes.{stopped, passed, given}
use Rattle.windows.proofs.open.Goals as goal

pub returns-then-not-state_ok : goal.returns-then-not-state_ok
unfolding open_of
returns-then-not-state_ok c = rw c.refuse.ensures (stopped _ 1 _ (ap not (sym c.state_ok.ensures) ∙ c.if-not-state_ok.true-raw))

pub returns-then-s-ne0 : goal.returns-then-s-ne0
unfolding open_of
returns-then-s-ne0 c =
    rw c.refuse-then-s-ne0.ensures
    (passed _ 1 _ (ap not (sym c.state_ok.ensures) ∙ c.if-not-state_ok.false-raw) (stopped _ 5 _ (ap not (ne_eqb _ _ c.if-s-ne0.true))))

pub returns-then-s-eq65535 : goal.returns-then-s-eq65535
unfolding open_of
returns-then-s-eq65535 c =
    let s = c.args.s in
    let full = c.if-s-eq65535.true in
    rw c.refuse-then-s-eq65535.ensures
    (passed _ 1 _ (ap not (sym c.state_ok.ensures) ∙ c.if-not-state_ok.false-raw)
    (passed _ 5 _ (ap not (eq-eqb _ _ c.if-s-ne0.false)) (stopped _ 6 _ (le-leb 65535 s.windows.last (omega arith)))))

pub returns : goal.returns
unfolding open_of opened
returns c =
    let s = c.args.s in
    rw (add-one s.windows.last)
    (passed _ 1 _ (ap not (sym c.state_ok.ensures) ∙ c.if-not-state_ok.false-raw)
    (passed _ 5 _ (ap not (eq-eqb _ _ c.if-s-ne0.false)) (passed _ 6 _ (lt-leb 65535 s.windows.last (search rules)) (given _ refl))))
