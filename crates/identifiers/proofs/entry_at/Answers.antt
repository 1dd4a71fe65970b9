-- `identifiers::entry_at` meets its contract: an entry lies whole within the register.
use Rattle.lists.proofs.Prelude.{◌≡◌, sym, ◌+◌, ◌*◌, ◌-◌, arith}
use Rattle.identifiers.proofs.Entries.{entry-room, entry_at}
use Rattle.identifiers.proofs.entry_at.Goals as goal

pub overflow_mul-at : goal.overflow_mul-at
overflow_mul-at c = omega (arith, entry-room c.args.register.now c.args.i c.requires)

pub overflow_add-end : goal.overflow_add-end
overflow_add-end c = omega (arith, entry-room c.args.register.now c.args.i c.requires)

pub slice_bounds-result-end : goal.slice_bounds-result-end
slice_bounds-result-end c = omega (arith, entry-room c.args.register.now c.args.i c.requires)

pub returns : goal.returns
returns c =
    let i = c.args.i in
    let e : 65 * i + 65 - 65 * i ≡ 65 = omega arith in
    rw e (sym (entry_at c.args.register.now i c.requires))
