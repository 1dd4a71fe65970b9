use Rattle.lists.proofs.Prelude.{List, ap, ◌∙◌, ◌-◌, set}
use Rattle.lists.proofs.Shifts.{lowered_copied}
use Rattle.postings.specs.declared.Posting.{Posting}
use Rattle.state.specs.Views.{no_posting}
use Rattle.buffer.proofs.Canonical.{made, remove-made}
use Rattle.buffer.proofs.remove.Goals as goal

pub returns : goal.returns
returns c =
    let b = c.args.b in
    let k = c.args.k in
    ap (λ (xs : List Posting). made (b.used - 1) (set xs (b.used - 1) no_posting)) (c.copy_within.ensures.after ∙ lowered_copied k b.used b.postings c.requires.1)
    ∙ remove-made b c.requires.0 k c.requires.1
