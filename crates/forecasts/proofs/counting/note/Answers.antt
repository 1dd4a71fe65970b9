-- `forecasts::counting::note` meets its contract.
use Rattle.lists.proofs.Prelude.{◌≤◌, ◌<◌, add-one, refl, arith, le-leb, lt-leb}
use Rattle.forecasts.proofs.counting.note.Goals as goal

pub returns-then-i-count : goal.returns-then-i-count
returns-then-i-count c =
    let a = c.args in
    let h : a.i < a.count = omega (arith, c.if-i-count.true) in
    rw (lt-leb a.count a.i h) (refl, refl)

pub bounds-places-known : goal.bounds-places-known
bounds-places-known c = omega (arith, c.requires.0 (omega (arith, c.if-i-count.false)))

pub returns : goal.returns
returns c =
    let a = c.args in
    let h : a.count ≤ a.i = omega (arith, c.if-i-count.false) in
    rw (le-leb a.count a.i h) (add-one a.known, refl)
