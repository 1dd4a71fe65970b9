-- `recordings::is_bad` meets its contract: the length byte tells.
use Rattle.lists.proofs.Prelude.{[], sym, arith, get_or}
use Rattle.identifiers.specs.Register.{entries}
use Rattle.identifiers.proofs.Entries.{length-entry}
use Rattle.recordings.proofs.Windows.{bad-size}
use Rattle.recordings.proofs.is_bad.Goals as goal

pub bounds-entry-0 : goal.bounds-entry-0
bounds-entry-0 c =
    rw c.entry_at-entry.ensures (omega (arith, length-entry c.args.plan.now c.args.at c.requires))

pub bounds-entry-0-2 : goal.bounds-entry-0-2
bounds-entry-0-2 c =
    rw c.entry_at-entry.ensures (omega (arith, length-entry c.args.plan.now c.args.at c.requires))

pub returns : goal.returns
returns c =
    let e = get_or (entries c.args.plan.now) c.args.at [] in
    rw c.entry_at-entry.ensures (sym (bad-size e (length-entry c.args.plan.now c.args.at c.requires)))
