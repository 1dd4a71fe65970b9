-- `recordings::identifier_at` meets its contract: an identifier of a good length stands whole in its entry.
use Rattle.lists.proofs.Prelude.{[], ◌≡◌, sym, ◌+◌, ◌-◌, arith, get_or}
use Rattle.identifiers.specs.Register.{entries, size}
use Rattle.identifiers.proofs.Entries.{length-entry}
use Rattle.recordings.proofs.Windows.{good-size, good-identifier}
use Rattle.recordings.proofs.identifier_at.Goals as goal

pub bounds-entry-0 : goal.bounds-entry-0
bounds-entry-0 c =
    rw c.entry_at-entry.ensures (omega (arith, length-entry c.args.plan.now c.args.at c.requires.0))

pub overflow_cast-end : goal.overflow_cast-end
overflow_cast-end c = omega (arith, c.shared_slice_known-2-1.given 0)

pub overflow_add-end : goal.overflow_add-end
overflow_add-end c = omega (arith, c.shared_slice_known-2-1.given 0)

pub slice_bounds-result-end : goal.slice_bounds-result-end
slice_bounds-result-end c =
    let e = get_or (entries c.args.plan.now) c.args.at [] in
    let whole = length-entry c.args.plan.now c.args.at c.requires.0 in
    rw c.entry_at-entry.ensures (omega (arith, whole, good-size e whole c.requires.1))

pub returns : goal.returns
returns c =
    let e = get_or (entries c.args.plan.now) c.args.at [] in
    let q : 1 + size e - 1 ≡ size e = omega arith in
    rw (c.entry_at-entry.ensures, q) (sym (good-identifier e (length-entry c.args.plan.now c.args.at c.requires.0) c.requires.1))
