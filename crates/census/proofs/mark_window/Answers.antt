-- `census::mark_window` meets its contract.
use mir.Facts.{to_z-of_z}
use mir.Syntax.{w32}
use mir.Val.{to_z, of_z, SFits}
use lib.Signed.{lt_z}
use Rattle.lists.proofs.Prelude.{Bool, true, ◌&&◌, ◌≡◌, sym, ◌∙◌, ap, ℕ, ℤ, pos, arith, and_left, and_right}
use Rattle.postings.specs.declared.Stretch.{Stretch}
use Rattle.postings.specs.Sums.{is_above}
use Rattle.state.specs.Shown.{shows_in}
use Rattle.kway.proofs.Turns.{above-test}
use Rattle.census.proofs.Marks.{step-none, step-mark, in-stretch}
use Rattle.census.proofs.mark_window.Goals as goal

-- the test as it is computed is the one that is meant
tested : (t : Stretch) (o w : ℕ) (z : ℤ) (b : Bool) → SFits w32 z → (shows_in t o w && lt_z (pos 0) (to_z w32 (of_z w32 z))) ≡ b → (shows_in t o w && is_above z) ≡ b
tested t o w z b f e = ap (λ (x : Bool). shows_in t o w && x) (sym (ap (lt_z (pos 0)) (to_z-of_z f) ∙ above-test z)) ∙ e

pub overflow_sub-window : goal.overflow_sub-window
overflow_sub-window c =
    let a = c.args in
    let i = in-stretch a.t a.current a.window a.total a.marks.now (and_left (shows_in a.t a.current a.window) _ c.if-lies-window.true) in
    i.0

pub mark-requires : goal.mark-requires
mark-requires c =
    let a = c.args in
    let i = in-stretch a.t a.current a.window a.total a.marks.now (and_left (shows_in a.t a.current a.window) _ c.if-lies-window.true) in
    omega (arith, i.0, i.1, c.requires.room)

pub returns-then-lies-window : goal.returns-then-lies-window
returns-then-lies-window c =
    let a = c.args in
    let e = tested a.t a.current a.window a.total true c.ranges.total c.if-lies-window.true in
    let m = c.mark in
    step-mark a.t a.current a.window a.total a.marks.now (and_left (shows_in a.t a.current a.window) _ e) (and_right (shows_in a.t a.current a.window) _ e)
    m.new.marks m.result m.ensures.0 m.ensures.1 m.ensures.2

pub returns : goal.returns
returns c =
    let a = c.args in
    step-none a.t a.current a.window a.total a.marks.now (tested a.t a.current a.window a.total _ c.ranges.total c.if-lies-window.false)
