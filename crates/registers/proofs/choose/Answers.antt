use Rattle.lists.proofs.Prelude.{refl, ap, ◌∙◌, arith, length}
use Rattle.identifiers.proofs.Entries.{length-entry}
use Rattle.registers.proofs.choose.Goals as goal

pub returns-then-high-j : goal.returns-then-high-j
returns-then-high-j c = let h = c.requires.4 c.if-high-j.true in (omega (arith, h, c.requires.2), λ n. h)

pub returns-then-mid-i : goal.returns-then-mid-i
returns-then-mid-i c = (omega (arith, c.if-high-j.false), λ n. absurd (n refl))

pub entry_at-a-requires : goal.entry_at-a-requires
entry_at-a-requires c = omega (arith, c.requires.0, c.requires.1 c.args.j)

pub entry_at-b-requires : goal.entry_at-b-requires
entry_at-b-requires c = omega (arith, c.requires.0, c.requires.1 c.args.i)

pub less-requires : goal.less-requires
less-requires c =
    let r = c.args.register.now in
    (ap length c.entry_at-a.ensures ∙ length-entry r _ (omega (arith, c.requires.0, c.requires.1 c.args.j)), ap length c.entry_at-b.ensures ∙ length-entry r _ (omega (arith, c.requires.0, c.requires.1 c.args.i)))

pub returns-then-less : goal.returns-then-less
returns-then-less c = (omega (arith, c.if-high-j.false), λ n. absurd (n refl))

pub returns-else-less : goal.returns-else-less
returns-else-less c = (omega (arith, c.if-mid-i.false, c.requires.2), λ n. omega (arith, c.if-mid-i.false))
