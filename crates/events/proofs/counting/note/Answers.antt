use Rattle.lists.proofs.Prelude.{◌≤◌, ◌<◌, arith, length, le-leb, lt-leb}
use Rattle.identifiers.specs.Names.{number_of}
use Rattle.identifiers.specs.Register.{names}
use Rattle.events.proofs.counting.note.Goals as goal

pub returns-then-i-used : goal.returns-then-i-used
returns-then-i-used c =
    let m = names c.args.register.now in
    let h : length m ≤ number_of m c.args.id.now = omega (arith, c.if-i-used.true, c.used_entries-used.ensures, c.requires.number) in
    rw (le-leb (length m) (number_of m c.args.id.now) h) c.add.ensures

pub returns-else-i-used : goal.returns-else-i-used
returns-else-i-used c =
    let m = names c.args.register.now in
    let h : number_of m c.args.id.now < length m = omega (arith, c.if-i-used.false, c.used_entries-used.ensures, c.requires.number) in
    rw (lt-leb (length m) (number_of m c.args.id.now) h)
