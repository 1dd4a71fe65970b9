use Rattle.lists.proofs.Prelude.{List, ap, ◌∙◌, ◌+◌, set}
use Rattle.lists.proofs.Shifts.{raised_copied}
use Rattle.postings.specs.declared.Posting.{Posting}
use Rattle.buffer.proofs.Canonical.{made, insert-made}
use Rattle.buffer.proofs.insert.Goals as goal

pub returns : goal.returns
returns c =
    let b = c.args.b in
    let k = c.args.k in
    ap (λ (xs : List Posting). made (b.used + 1) (set xs k c.args.p)) (c.copy_within.ensures.after ∙ raised_copied b.used k b.postings c.requires.2)
    ∙ insert-made b c.requires.0 k c.args.p c.requires.2 c.requires.1
