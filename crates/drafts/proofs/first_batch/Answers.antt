-- `drafts::first_batch` meets its contract.
use Rattle.lists.proofs.Prelude.{ap, ◌∙◌, length, take}
use Rattle.postings.specs.Merge.{nonzero}
use Rattle.drafts.proofs.first_batch.Goals as goal

pub returns : goal.returns
returns c =
    let e = c.open_inputs-top.ensures.1 in
    let b = c.sixteen.ensures in
    (b.0 ∙ ap (λ l. nonzero (take 16 l)) e, b.1 ∙ ap (λ l. length (take 16 l)) e, b.2)
