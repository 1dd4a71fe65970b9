use Rattle.lists.proofs.Prelude.{ap, ◌∙◌}
use Rattle.answers.specs.Answers.{answer_of}
use Rattle.state.specs.declared.State.{State}
use Rattle.windows.specs.Promises.{store_of}
use Rattle.batches.specs.Batch.{remove_all_of}
use Rattle.capi.proofs.judge_list.Goals as goal

pub returns : goal.returns
returns c =
    let a = c.args in
    c.judge.ensures ∙ ap (λ (s : State). answer_of (remove_all_of (store_of s a.card.now) a.windows.now)) c.read_state-s.ensures
