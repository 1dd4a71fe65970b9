-- `weights::idf_weight` meets its contract: no window, more than there are, or a difference of two logarithms, the second of which is no larger.
use Rattle.lists.proofs.Prelude.{◌≡◌, sym, ap, ◌∙◌, arith}
use Rattle.weights.specs.Weights.{sixteenths, idf_weight}
use Rattle.weights.proofs.Laws.{idf-none, idf-past, idf-proper, sixteenths-grow}
use Rattle.weights.proofs.idf_weight.Goals as goal

pub returns-then-f-eq0 : goal.returns-then-f-eq0
returns-then-f-eq0 c =
    let n = c.args.n in
    let none : c.args.f ≡ 0 = omega arith in
    sym (ap (idf_weight n) none ∙ idf-none n)

pub returns-then-n-f : goal.returns-then-n-f
returns-then-n-f c = sym (idf-past c.args.n c.args.f (omega arith))

pub overflow_sub-result : goal.overflow_sub-result
overflow_sub-result c =
    let a : c.sixteenths.result ≡ sixteenths c.args.n = c.sixteenths.ensures ∙ ap sixteenths (omega arith) in
    let b : c.sixteenths-2.result ≡ sixteenths c.args.f = c.sixteenths-2.ensures ∙ ap sixteenths (omega arith) in
    rw (a, b) (sixteenths-grow c.args.f c.args.n (omega arith))

pub returns : goal.returns
returns c =
    let a : c.sixteenths.result ≡ sixteenths c.args.n = c.sixteenths.ensures ∙ ap sixteenths (omega arith) in
    let b : c.sixteenths-2.result ≡ sixteenths c.args.f = c.sixteenths-2.ensures ∙ ap sixteenths (omega arith) in
    rw (a, b) (sym (idf-proper c.args.n c.args.f (omega arith) (omega arith)))

pub sixteenths-requires : goal.sixteenths-requires
sixteenths-requires c = (omega arith, omega arith)

pub sixteenths-requires-2 : goal.sixteenths-requires-2
sixteenths-requires-2 c = (omega arith, omega arith)
