use Rattle.lists.proofs.Prelude.{ap, ◌∙◌}
use Rattle.answers.specs.Answers.{answer_of}
use Rattle.state.specs.declared.State.{State}
use Rattle.windows.specs.Promises.{store_of}
use Rattle.images.proofs.Fits.{image-length}
use Rattle.batches.specs.Batch.{remove_all_of}
use Rattle.capi.proofs.Carried.{made-on}
use Rattle.capi.proofs.remove_list.Goals as goal

pub remove_each-t-requires : goal.remove_each-t-requires
remove_each-t-requires c =
    ap (λ (x : State). answer_of (remove_all_of (store_of x c.args.card.now) c.args.windows.now)) c.read_state-s.ensures ∙ c.requires.1

pub write_state-requires : goal.write_state-requires
write_state-requires c = image-length c.args.image.now c.requires.0

pub returns : goal.returns
returns c =
    let a = c.args in
    made-on (λ p. remove_all_of p a.windows.now) a.image.now a.card.now _ _ _ _ c.read_state-s.ensures c.remove_each-t.ensures c.write_state.ensures
