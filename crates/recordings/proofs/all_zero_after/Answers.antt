use Rattle.lists.proofs.Prelude.{true, false, [], ◌≡◌, sym, ◌∙◌, add-one, arith, passed, failed, get_or, drop_of_length-le, every-step}
use Rattle.identifiers.specs.Register.{entries}
use Rattle.identifiers.proofs.Entries.{length-entries, length-entry}
use Rattle.recordings.specs.Recording.{zero_after}
use Rattle.recordings.proofs.all_zero_after.Goals as goal

pub entry_at-requires : goal.entry_at-requires
entry_at-requires c = omega (arith, length-entries c.args.plan.now)

pub zero_after-requires : goal.zero_after-requires
zero_after-requires c =
    let r = c.args.plan.now in
    rw c.entry_at.ensures (length-entry r c.loop-i.i (omega (arith, length-entries r)))

pub returns-then-not-zero_after : goal.returns-then-not-zero_after
returns-then-not-zero_after c =
    let r = c.args.plan.now in
    let t : zero_after (get_or (entries r) c.loop-i.i []) ≡ false =
    rw (← c.entry_at.ensures) (failed c.zero_after.ensures c.if-not-zero_after.true-raw) in
    sym (c.loop-i.invariant ∙ every-step zero_after (entries r) c.loop-i.i [] (omega (arith, length-entries r)) ∙ rw t)

pub loop-i-preserved : goal.loop-i-preserved
loop-i-preserved c =
    let r = c.args.plan.now in
    let t : zero_after (get_or (entries r) c.loop-i.i []) ≡ true =
    rw (← c.entry_at.ensures) (passed c.zero_after.ensures c.if-not-zero_after.false-raw) in
    rw add-one (c.loop-i.invariant ∙ every-step zero_after (entries r) c.loop-i.i [] (omega (arith, length-entries r)) ∙ rw t)

pub returns : goal.returns
returns c =
    let r = c.args.plan.now in
    sym (c.loop-i.invariant ∙ rw (drop_of_length-le (entries r) {i = c.loop-i.i} (omega (arith, length-entries r))))
