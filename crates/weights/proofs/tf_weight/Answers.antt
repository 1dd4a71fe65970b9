-- `weights::tf_weight` meets its contract: it is the logarithm of the count and one.
use Rattle.lists.proofs.Prelude.{◌≡◌, sym, ap, ◌∙◌, ◌+◌, arith}
use Rattle.weights.specs.Weights.{sixteenths}
use Rattle.weights.proofs.Laws.{tf-proper, sixteenths-highest}
use Rattle.weights.proofs.tf_weight.Goals as goal

pub returns : goal.returns
returns c =
    let f = c.args.f in
    let e : c.sixteenths.result ≡ sixteenths (f + 1) = c.sixteenths.ensures ∙ ap sixteenths (omega arith) in
    record { weight = e ∙ sym (tf-proper f); highest = rw e (sixteenths-highest (f + 1) (omega arith) (omega arith)) }

pub sixteenths-requires : goal.sixteenths-requires
sixteenths-requires c = (omega arith, omega arith)
