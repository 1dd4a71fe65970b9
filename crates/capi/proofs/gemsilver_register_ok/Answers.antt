-- `capi::gemsilver_register_ok` meets its contract: the length is judged first, then the register's rule.
use Rattle.lists.proofs.Prelude.{true, ◌≡◌, sym, ◌∙◌, ℕ, ◌/◌, ◌%◌, ◌≤◌, arith, leb, eqb, leb-true, eqb-true, not-true, not-false, and_left, and_right}
use Rattle.state.specs.Rules.{register_length}
use Rattle.capi.proofs.gemsilver_register_ok.Goals as goal

-- a length within the limits is at most that of 1,024 entries
most : (n : ℕ) → register_length n ≡ true → n ≤ 66560
most n e =
    let a = eqb-true (n % 65) 0 (and_left _ _ e) in
    let b = leb-true (n / 65) 1024 (and_right (leb 1 (n / 65)) _ (and_right (eqb (n % 65) 0) _ e)) in
    omega arith

pub returns-then-not-register_length_ok : goal.returns-then-not-register_length_ok
returns-then-not-register_length_ok c = rw (sym c.register_length_ok.ensures ∙ not-true _ c.if-not-register_length_ok.true-raw)

pub register_ok-requires : goal.register_ok-requires
register_ok-requires c = most _ (sym c.register_length_ok.ensures ∙ not-false _ c.if-not-register_length_ok.false-raw)

pub returns-then-register_ok : goal.returns-then-register_ok
returns-then-register_ok c = rw (sym c.register_length_ok.ensures ∙ not-false _ c.if-not-register_length_ok.false-raw, sym c.register_ok.ensures ∙ c.if-register_ok.true)

pub returns-else-register_ok : goal.returns-else-register_ok
returns-else-register_ok c = rw (sym c.register_length_ok.ensures ∙ not-false _ c.if-not-register_length_ok.false-raw, sym c.register_ok.ensures ∙ c.if-register_ok.false)
