-- `inputs::open_inputs` meets its contract.
use Rattle.lists.proofs.Prelude.{arith}
use Rattle.words.specs.Words.{words}
use Rattle.words.proofs.Views.{words-below}
use Rattle.state.specs.Views.{finished}
use Rattle.inputs.proofs.Judged.{opened-ahead, opened-formed}
use Rattle.inputs.proofs.open_inputs.Goals as goal

pub returns : goal.returns
returns c =
    let W = words c.args.card.now in
    let small = words-below c.args.card.now (λ k. omega (arith, c.shared_slice_known-1.given k)) in
    let o = c.open_heads in
    let ps = c.args.ps in
    let H = o.new.heads in (
      opened-formed W small (finished ps) ps.used H o.ensures.1 o.ensures.2 o.result (record { few = c.requires.0; fits = omega (arith, o.ensures.0, c.requires.2); kept = o.ensures.1; top = o.ensures.3 }) c.requires.4,
      opened-ahead W small (finished ps) ps.used H o.ensures.1 o.ensures.2,
    )
