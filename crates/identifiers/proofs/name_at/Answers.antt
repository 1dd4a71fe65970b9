-- `identifiers::name_at` meets its contract: the entry at that place is used, and holds its identifier after its length byte.
use Rattle.lists.proofs.Prelude.{[], ◌≡◌, sym, ◌+◌, ◌-◌, arith, get_or}
use Rattle.identifiers.specs.Register.{entries, size}
use Rattle.identifiers.proofs.Entries.{length-entry, name-inside, name-entry, name-size}
use Rattle.identifiers.proofs.name_at.Goals as goal

pub entry_at-entry-requires : goal.entry_at-entry-requires
entry_at-entry-requires c = name-inside c.args.register.now c.requires.0 c.args.i c.requires.1

pub bounds-entry-0 : goal.bounds-entry-0
bounds-entry-0 c =
    let r = c.args.register.now in
    let i = c.args.i in
    let h = name-inside r c.requires.0 i c.requires.1 in
    let e = c.entry_at-entry in
    rw e.ensures (omega (arith, length-entry r i h))

pub overflow_cast-end : goal.overflow_cast-end
overflow_cast-end c = omega (arith, c.shared_slice_known-2-1.given 0)

pub overflow_add-end : goal.overflow_add-end
overflow_add-end c = omega (arith, c.shared_slice_known-2-1.given 0)

pub slice_bounds-result-end : goal.slice_bounds-result-end
slice_bounds-result-end c =
    let r = c.args.register.now in
    let i = c.args.i in
    let h = name-inside r c.requires.0 i c.requires.1 in
    let e = c.entry_at-entry in
    rw e.ensures (omega (arith, length-entry r i h, name-size r c.requires.0 i h))

pub returns : goal.returns
returns c =
    let r = c.args.register.now in
    let i = c.args.i in
    let h = name-inside r c.requires.0 i c.requires.1 in
    let e = c.entry_at-entry in
    let q : 1 + size (get_or (entries r) i []) - 1 ≡ size (get_or (entries r) i []) = omega arith in
    rw (e.ensures, q) (sym (name-entry r c.requires.0 i c.requires.1))
